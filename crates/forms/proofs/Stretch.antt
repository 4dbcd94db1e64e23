-- Writes one behind the other. Each comes with its length, so the place of the next is known.
use mathlib.Core.Path.{◌≡◌, ap, sym}
use mathlib.Core.List.{List, ◌++◌}
use Prim.Native.Nat.{ℕ, ◌+◌}
use lib.ListN.{length, length-append}
use Rattle.words.specs.Wrote.{Wrote}
use Rattle.words.proofs.Wrote.{after}

-- e is b with the k bytes xs stored from place i on
pub record Stretch (b : List ℕ) (i k : ℕ) (xs e : List ℕ) : Type 0 where
  pub wrote : Wrote b i xs e
  pub wide : length xs ≡ k

pub stretch : {b e xs : List ℕ} {i k : ℕ} → Wrote b i xs e → length xs ≡ k → Stretch b i k xs e
stretch w l = record { wrote = w; wide = l }

infixl 40 ◌next◌
pub ◌next◌ : {b c e xs ys : List ℕ} {i k m : ℕ} → Stretch b i k xs c → Stretch c (i + k) m ys e → Stretch b i (k + m) (xs ++ ys) e
◌next◌ {xs = xs} {ys} {i} p q =
    record { wrote = after p.wrote q.wrote (ap (λ (n : ℕ). i + n) (sym p.wide)); wide = rw (length-append, p.wide, q.wide) }
