-- A bad instruction among the first n.
use mathlib.Core.Bool.{Bool, ◌&&◌, false, not, true}
use mathlib.Core.List.{List}
use mathlib.Core.Logic.{◌⊎◌, inl, inr}
use mathlib.Core.Path.{◌≡◌, refl}
use Prim.Native.Nat.{◌<◌, suc, zero, ℕ}
use native.Mathlib.Nat.{eq-or-lt_of_le, le_of_suc-le-suc, not-suc-le-zero}
use Rattle.rules.specs.Decode.{fetch, is_bad}
use Rattle.rules.specs.declared.Instr.{Instr}
use Rattle.std.specs.Option.{is_some}
use Rattle.std.specs.Prelude.{Option, Some, None}
use Rattle.rules.specs.Program.{good_up_to}

pub bad-up_to : (code : List ℕ) (n k m : ℕ) → k < m → is_bad (fetch code n k) ≡ true → good_up_to code n m ≡ false
unfolding good_up_to
bad-up_to code n k zero h b = absurd (not-suc-le-zero h)
bad-up_to code n k (suc m) h b = go (eq-or-lt_of_le (le_of_suc-le-suc h)) (λ l. bad-up_to code n k m l b)
  where
    and_false : (a b : Bool) → b ≡ true → a && not b ≡ false
    and_false true b e = rw e
    and_false false b e = refl

    go : (k ≡ m) ⊎ (k < m) → (k < m → good_up_to code n m ≡ false) → good_up_to code n m && not (is_bad (fetch code n m)) ≡ false
    go (inl e) ih = and_false (good_up_to code n m) (is_bad (fetch code n m)) (rw e at b)
    go (inr l) ih = rw (ih l)

-- what is not well formed is no instruction
pub bad_none : (d : Option Instr) → is_bad d ≡ not (is_some d)
unfolding is_bad
bad_none None = refl
bad_none (Some i) = refl
