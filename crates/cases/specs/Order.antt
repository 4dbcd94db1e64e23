-- The numbers that come back, the form of an event, and the order of its refusals.
use mathlib.Core.{List.{[], ◌++◌, ◌∷◌, List}, Path.◌≡◌}
use Rattle.std.specs.Prelude.{◌*◌, suc, ℕ, drop, replicate, take}
use Rattle.rules.specs.Bytes.{read_event}
use Rattle.rules.specs.declared.Event.TheVariants.{Ack, BEnd, BInt, BStep, Detect, Fail, Link, PEnd, PInt, PStep, PTime}
use Rattle.rules.specs.declared.Pair.{Pair}
use Rattle.rules.specs.declared.Refusal.TheVariants.{BadFile, BadProgram, Dead, EpochsUsedUp, InboxFull, Malformed, MustWait, OutOfTurn, TooShort, UnknownOperation, Unsound}
use Rattle.rules.specs.Events.{kind, number}
use Rattle.rules.specs.Pair.{on_b, on_p}
use Rattle.rules.specs.PairSlots.{answer_number, zero_pair}
use Rattle.cases.specs.{Example.{case_a, case_c, example}, Guest.status, Trials.{ACK, BEND, BINT, BSTEP, DETECT, eight, epoch_no, FAIL, pair_after, PEND, PINT, PSTEP, PTIME, Refuses, RefusesAfter, trial_from}}
use Rattle.std.specs.Prelude.{Some, Ok}

-- ---- "Numbers that come back"

pub record Numbers : Type 0 where
  pub taken : answer_number (Ok tt) ≡ 0
  pub malformed : number Malformed ≡ 1
  pub dead : number Dead ≡ 2
  pub out_of_turn : number OutOfTurn ≡ 3
  pub must_wait : number MustWait ≡ 4
  pub unknown_operation : number UnknownOperation ≡ 5
  pub inbox_full : number InboxFull ≡ 6
  pub epochs_used_up : number EpochsUsedUp ≡ 7
  pub bad_program : number BadProgram ≡ 8
  pub too_short : number TooShort ≡ 9
  pub bad_file : number BadFile ≡ 10
  pub unsound : number Unsound ≡ 11

-- "kind" in the table of events
pub record Kinds : Type 0 where
  pub pstep : kind (PStep 0) ≡ 1
  pub pint : kind (PInt (status 1 1 0)) ≡ 2
  pub ptime : kind (PTime 0) ≡ 3
  pub pend : kind PEnd ≡ 4
  pub link : kind Link ≡ 5
  pub ack : kind Ack ≡ 6
  pub fail : kind Fail ≡ 7
  pub detect : kind Detect ≡ 8
  pub bstep : kind (BStep 0) ≡ 9
  pub bend : kind (BEnd 0) ≡ 10
  pub bint : kind (BInt (status 1 1 0)) ≡ 11

-- ---- the form of an event: 1

pub record Forms : Type 0 where
  -- the bytes of PINT, and what they say
  pub bytes : PINT 1 258 65545 ≡ 2 ∷ 1 ∷ 2 ∷ 1 ∷ 9 ∷ 0 ∷ 1 ∷ 0 ∷ []
  pub read : read_event (2 ∷ 1 ∷ 2 ∷ 1 ∷ 9 ∷ 0 ∷ 1 ∷ 0 ∷ []) ≡ Some (PInt (status 1 258 65545))
  -- "or not 8 bytes": 7, 9, none
  pub short : Refuses example (pair_after example 2 []) (take 7 (PSTEP 0)) 1
  pub long : Refuses example (pair_after example 2 []) (PSTEP 0 ++ (0 ∷ [])) 1
  pub none : Refuses example (pair_after example 2 []) [] 1
  -- kinds 0 and 12
  pub kind0 : Refuses example (pair_after example 2 []) (eight 0 0 0 0) 1
  pub kind12 : Refuses example (pair_after example 2 []) (eight 12 0 0 0) 1
  -- "All else is 0": a status, an operation and a word where none is used
  pub status_unused : Refuses example (pair_after example 2 []) (eight 1 1 0 0) 1
  pub operation_unused : Refuses example (pair_after example 2 []) (eight 3 0 1 0) 1
  pub word_unused : Refuses example (pair_after example 2 []) (eight 7 0 0 1) 1
  -- "status 1 or 2, operation 1 to 65,535, .. data 0 for status 2", also where a BINT would be ignored
  pub status0 : Refuses example (pair_after example 2 (take 2 case_c)) (PINT 0 1 9) 1
  pub status3 : Refuses example (pair_after example 2 (take 2 case_c)) (PINT 3 1 9) 1
  pub operation0 : Refuses example (pair_after example 2 (take 2 case_c)) (PINT 1 0 9) 1
  pub uncertain_data : Refuses example (pair_after example 2 (take 2 case_c)) (PINT 2 1 9) 1
  pub uncertain : RefusesAfter example 2 (PSTEP 0 ∷ PSTEP 0 ∷ PINT 2 1 0 ∷ []) (PINT 2 1 0) 5
  pub ignored : Refuses example (pair_after example 2 []) (BINT 2 1 9) 1

-- ---- "Order for an event: 1, 11, program length 8, the event's column, bad instruction 8"

-- 20 bytes, as many as `example` has, and no instruction of them is well formed
unfoldable pub rubbish : List ℕ
rubbish = replicate 20 255

-- `example` with instruction n bad
unfoldable pub bad_at : ℕ → List ℕ
bad_at n = take (4 * n) example ++ replicate 4 255 ++ drop (4 * suc n) example

-- P, or B with P's guest, in epoch n
unfoldable pub p_in_epoch : ℕ → Pair → Pair
p_in_epoch n s = on_p s (record { guest = s.p.guest; epoch = epoch_no n; buffer = s.p.buffer }) s.phase []

unfoldable pub b_in_epoch : ℕ → Pair → Pair
b_in_epoch n s = on_b s (record { guest = s.p.guest; epoch = epoch_no n; buffer = s.b.buffer }) s.role s.inbox

pub record Order : Type 0 where
  -- 1 before 11: zeros are no sound pair
  pub malformed : Refuses example zero_pair (PINT 3 1 9) 1
  pub too_short : Refuses example zero_pair [] 1
  -- 11 before 8: the program's length is wrong too
  pub unsound : Refuses example zero_pair ACK 11
  -- the length before the column (ACK would be 4, PSTEP 2), also for events that run no instruction
  pub length_ack : Refuses (take 16 example) (pair_after example 2 []) ACK 8
  pub length_dead : Refuses (take 16 example) (pair_after example 2 (FAIL ∷ [])) (PSTEP 0) 8
  pub length_fail : Refuses (example ++ (0 ∷ 0 ∷ 0 ∷ 0 ∷ [])) (pair_after example 2 []) FAIL 8
  -- the column before a bad instruction: failed 2, complete 3, epoch 0 3; then 8
  pub bad_dead : Refuses rubbish (pair_after example 2 (FAIL ∷ [])) (PSTEP 0) 2
  pub bad_done : Refuses rubbish (pair_after example 2 (take 2 case_c)) (PSTEP 0) 3
  pub bad_idle : Refuses rubbish (pair_after example 2 []) (BSTEP 0) 3
  pub bad_p : Refuses rubbish (pair_after example 2 []) (PSTEP 0) 8
  pub bad_b : Refuses rubbish (pair_after example 2 (take 5 case_a)) (BSTEP 0) 8
  -- at the stepping card's own pc: P's is 2, or 1 after one PSTEP, and B's is 0
  pub bad_at_p : Refuses (bad_at 1) (pair_after example 2 (PSTEP 0 ∷ [])) (PSTEP 0) 8
  pub good_at_p : Refuses (bad_at 0) (pair_after example 2 (PSTEP 0 ∷ [])) (PSTEP 0) 0
  pub bad_at_b : Refuses (bad_at 0) (pair_after example 2 (take 5 case_a)) (BSTEP 0) 8
  pub good_at_b : Refuses (bad_at 2) (pair_after example 2 (take 5 case_a)) (BSTEP 0) 0
  -- and no other event looks at the program
  pub bad_else : (trial_from rubbish (pair_after example 2 []) (FAIL ∷ DETECT ∷ BEND 0 ∷ [])).answers ≡ 0 ∷ 0 ∷ 0 ∷ []
  -- PEND: 3 before 7, 7 before 4
  pub pend_used_up : Refuses example (p_in_epoch 65535 (pair_after example 2 (PSTEP 0 ∷ PSTEP 0 ∷ PTIME 0 ∷ []))) PEND 7
  pub pend_waits : Refuses example (p_in_epoch 65534 (pair_after example 2 (PSTEP 0 ∷ PSTEP 0 ∷ PTIME 0 ∷ []))) PEND 4
  pub pend_early : Refuses example (p_in_epoch 65535 (pair_after example 2 (PSTEP 0 ∷ PSTEP 0 ∷ []))) PEND 3
  -- BEND: 3 before 7, 7 before 4
  pub bend_used_up : Refuses example (b_in_epoch 65535 (pair_after example 2 (PSTEP 0 ∷ PSTEP 0 ∷ []))) (BEND 0) 7
  pub bend_waits : Refuses example (b_in_epoch 65534 (pair_after example 2 (PSTEP 0 ∷ PSTEP 0 ∷ []))) (BEND 0) 4
  pub bend_early : Refuses example (b_in_epoch 65535 (pair_after example 2 (PSTEP 0 ∷ []))) (BEND 0) 3
  -- DETECT: 3 before 4
  pub detect_alive : Refuses example (pair_after example 2 (PSTEP 0 ∷ PSTEP 0 ∷ PTIME 0 ∷ [])) DETECT 3
  -- PINT: 2 before 5
  pub pint_dead : Refuses example (pair_after example 2 (FAIL ∷ [])) (PINT 1 1 9) 2
