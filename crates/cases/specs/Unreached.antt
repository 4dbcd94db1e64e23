-- Sound pairs that no run from a fresh pair reaches: messages of several epochs at a time in B's inbox, in any order, and of B's own epoch
-- once it is promoted. The rules say what happens there too.
use mathlib.Core.{Bool.true, List.{[], ◌∷◌, List}, Path.◌≡◌}
use Rattle.std.specs.Prelude.{ℕ}
use borrow.Fn.PlainCycle.{is}
use Rattle.rules.specs.{declared.{Interrupt.Interrupt, Message.Message, Pair.Pair, Phase.TheVariants.Failed, Role.{Role, TheVariants.{Failover, Following, Promoted}}}, Guest.{reg, with_counts, with_queue}, Messages.{end, int, tme, val}, Pair.{with_b, with_detected, with_inbox, with_phase, with_role}, PairSlots.{laid, seen}}
use Rattle.cases.specs.{Guest.status, Sound.{guest_p, waiting}, Trials.{BEND, BINT, BSTEP, epoch_no, Stand, stand, Trial, trial_from}}

-- TIME r1, five times over
unfoldable pub clockwork : List ℕ
clockwork = 16 ∷ 1 ∷ 0 ∷ 0 ∷ 16 ∷ 1 ∷ 0 ∷ 0 ∷ 16 ∷ 1 ∷ 0 ∷ 0 ∷ 16 ∷ 1 ∷ 0 ∷ 0 ∷ 16 ∷ 1 ∷ 0 ∷ 0 ∷ []

-- B in epoch 2 with this role, having done n instructions and one TIME, with these interrupts buffered and messages received: 1 and 2 are out,
-- the timer is armed for 5, and P has stopped
unfoldable pub holding : Role → ℕ → List Interrupt → List Message → Pair
holding o n is ms =
    with_inbox (with_role (with_detected (with_phase (with_b waiting (record { guest = with_counts (with_queue guest_p []) n 1; epoch = epoch_no 2; buffer = is })) Failed) true) o) ms

-- one event on it
unfoldable pub after_one : Pair → List ℕ → Trial
after_one s bytes = trial_from clockwork (laid s) (bytes ∷ [])

-- what TIME read, and what is left in the inbox
unfoldable pub read_from : Trial → ℕ × List Message
read_from t = (reg t.pair.b.guest 1, (seen t.pair).inbox)

-- how B stands, and what is left in the inbox
unfoldable pub left_by : Trial → Stand × List Message
left_by t = (stand t.pair, (seen t.pair).inbox)

-- messages of epochs 2 and 3, mixed: two Tmes, and the completion of operation 1 twice
unfoldable pub mixed : List Message
mixed =
    tme (epoch_no 2) 6 ∷ int (epoch_no 2) (status 1 1 9) ∷ end (epoch_no 2) ∷ int (epoch_no 2) (status 1 1 8) ∷ tme (epoch_no 2) 9 ∷ end (epoch_no 3) ∷ int (epoch_no 3) (status 1 2 7) ∷ val (epoch_no 2) 4 ∷ []

-- those of epoch 3
unfoldable pub of_three : List Message
of_three = end (epoch_no 3) ∷ int (epoch_no 3) (status 1 2 7) ∷ []

pub record Unreached : Type 0 where
  -- BSTEP: "TIME reads the first Val of B's epoch in the inbox and removes it", and no other
  pub first_val : read_from (after_one (holding Following 1 [] (val (epoch_no 3) 5 ∷ val (epoch_no 2) 7 ∷ val (epoch_no 2) 8 ∷ [])) (BSTEP 91)) ≡ (7, val (epoch_no 3) 5 ∷ val (epoch_no 2) 8 ∷ [])
  -- "else the word": a Val of another epoch is not B's
  pub no_val : read_from (after_one (holding Following 1 [] (val (epoch_no 3) 5 ∷ [])) (BSTEP 91)) ≡ (91, val (epoch_no 3) 5 ∷ [])
  -- the rule has no phase in it: promoted, a Val of B's epoch is still read
  pub promoted_val : read_from (after_one (holding Promoted 1 [] (val (epoch_no 2) 7 ∷ [])) (BSTEP 91)) ≡ (7, [])
  -- BEND while following (P5): "its Ints in inbox order", the second one of operation 1 dropped, "its first Tme there"; "remove all messages of e_b", and no others
  pub follows : left_by (after_one (holding Following 3 [] mixed) (BEND 91)) ≡ ((Following, 3, status 1 1 9 ∷ status 3 0 6 ∷ []), of_three)
  -- in failover: the same, then P8; an [end, e_b+1] there means nothing
  pub fails : left_by (after_one (holding Failover 3 [] mixed) (BEND 91)) ≡ ((Promoted, 3, status 1 1 9 ∷ status 2 2 0 ∷ status 3 0 6 ∷ []), of_three)
  -- "Promoted: boundary with B's own buffer and the word": the inbox stays as it was
  pub promoted : left_by (after_one (holding Promoted 3 (status 1 2 7 ∷ []) mixed) (BEND 91)) ≡ ((Promoted, 3, status 1 2 7 ∷ status 3 0 91 ∷ []), mixed)
  -- BINT: "buffered", and nothing else
  pub buffered : left_by (after_one (holding Promoted 1 [] mixed) (BINT 1 2 7)) ≡ ((Promoted, 2, []), mixed)
  -- "or else if the stop is detected (P7, failover begins)": an end of another epoch does not let B in
  pub begins : left_by (after_one (holding Following 3 [] (end (epoch_no 4) ∷ [])) (BEND 91)) ≡ ((Failover, 3, status 3 0 91 ∷ []), end (epoch_no 4) ∷ [])
