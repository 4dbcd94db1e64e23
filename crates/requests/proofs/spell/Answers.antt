use mathlib.Core.Bool.{false}
use mathlib.Core.Path.{◌≡◌, refl}
use Prim.Native.Nat.{ℕ}
use borrow.Author.Rules.{rules}
use borrow.Author.Tests.{ne_eqb}
use lib.Dec.{eqb}
use Rattle.requests.specs.Answers.{answered}
use Rattle.requests.proofs.spell.Goals as goal

pub returns-in-1 : goal.returns-in-1
unfolding answered
returns-in-1 c = rw c.in-1.is (record { puts = c.load.ensures; leaves_b = refl; leaves_c = refl })

pub returns-in-2 : goal.returns-in-2
unfolding answered
returns-in-2 c = rw c.in-2.is (record { puts = c.apply.ensures; leaves_b = refl; leaves_c = refl })

pub returns-in-3 : goal.returns-in-3
unfolding answered
returns-in-3 c = rw c.in-3.is (record { puts = c.retire.ensures.spelled; leaves_b = c.retire.ensures.store; leaves_c = refl })

pub returns-in-4 : goal.returns-in-4
unfolding answered
returns-in-4 c = rw c.in-4.is (record { puts = c.write.ensures.spelled; leaves_b = refl; leaves_c = c.write.ensures.buffer })

pub returns-in-5 : goal.returns-in-5
unfolding answered
returns-in-5 c = rw c.in-5.is (record { puts = c.read.ensures; leaves_b = refl; leaves_c = refl })

pub returns-in-6 : goal.returns-in-6
unfolding answered
returns-in-6 c = rw c.in-6.is (record { puts = c.save.ensures.spelled; leaves_b = refl; leaves_c = c.save.ensures.buffer })

pub returns-in_default : goal.returns-in_default
unfolding answered
returns-in_default c =
    let none : (n : ℕ) → (c.args.kind ≡ n → ⊥) → eqb c.args.kind n ≡ false = ne_eqb c.args.kind in
    rw (none 1 (search rules), none 2 (search rules), none 3 (search rules), none 4 (search rules), none 5 (search rules), none 6 (search rules)) (record { puts = c.bad.ensures; leaves_b = refl; leaves_c = refl })
