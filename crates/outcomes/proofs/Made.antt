-- What set-up makes.
use mathlib.Core.Bool.{◌&&◌, false, true}
use mathlib.Core.List.{List}
use mathlib.Core.Path.{◌≡◌}
use Prim.Native.Nat.{◌*◌, ◌/◌, ◌≤◌, ℕ}
use borrow.Author.Tests.{leb-true}
use lib.Dec.{eqb, leb}
use lib.ListN.{length}
use Rattle.rules.specs.Events.{refuse, refused, set_up}
use Rattle.rules.specs.Pair.{fresh_pair}
use Rattle.rules.specs.PairSlots.{laid, made, outcome, stored, zero_pair}
use Rattle.rules.specs.Program.{good, good_program, good_up_to, under}
use Rattle.rules.specs.declared.Refusal.TheVariants.{BadProgram}
use Rattle.slots.proofs.Tests.{and_true}
use Rattle.outcomes.specs.Made.{blank, done}
use Rattle.std.specs.Prelude.{None}

module _ (code : List ℕ) (l : ℕ) where
  pub made_good : leb 1 l && leb l 4096 && good_program code (length code / 4) ≡ true → done (laid (blank (record { 0 = 1 }) (length code / 4) l)) None ≡ made (under code l)
  unfolding made set_up good under refuse stored outcome fresh_pair
  made_good h = rw h

  pub made_bad : leb 1 l && leb l 4096 && good_program code (length code / 4) ≡ false → outcome zero_pair (refused BadProgram) ≡ made (under code l)
  unfolding made set_up good under refuse stored outcome
  made_bad h = rw h

  -- a good program's N is small
  pub few_instructions : leb 1 l && leb l 4096 && good_program code (length code / 4) ≡ true → length code / 4 ≤ 1024
  unfolding good_program
  few_instructions h =
      let n = length code / 4 in
      let a = and_true (leb 1 l && leb l 4096) (good_program code n) h in
      let b = and_true (leb 1 n && leb n 1024 && eqb (length code) (4 * n)) (good_up_to code n n) a.1 in
      let c = and_true (leb 1 n && leb n 1024) (eqb (length code) (4 * n)) b.0 in
      leb-true n 1024 (and_true (leb 1 n) (leb n 1024) c.0).1

-- ---- what the check may use of these, for each function

pub ruleset of_set_up = (made_good, made_bad, few_instructions)
