-- What is written at the front of a lent buffer, and what stays behind it.
use mathlib.Core.List.{List, ◌++◌}
use mathlib.Core.Path.{◌≡◌}
use Prim.Native.Nat.{ℕ, ◌≤◌}
use native.Mathlib.Nat.{zero-add}
use native.Mathlib.Omega.{arith}
use lib.ListN.{length, drop}
use Rattle.words.specs.Wrote.{Wrote}
use Rattle.words.proofs.Wrote.{wrote_parts}

pub at_the_front : {b xs e : List ℕ} → Wrote b 0 xs e → (n : ℕ) → length xs ≡ n → n ≤ length b → e ≡ xs ++ drop n b
at_the_front w n l h = rw (zero-add, l) at (wrote_parts w (omega arith))
