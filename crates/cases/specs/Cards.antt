-- The events, one after the other: each column of 01's table, and what the cards are left with.
use mathlib.Core.{Bool.{false, true}, List.{[], ◌++◌, ◌∷◌, List}, Path.◌≡◌}
use Rattle.std.specs.Prelude.{ℕ, replicate, take}
use Rattle.rules.specs.{declared.{Guest.Guest, Pair.Pair, Phase.TheVariants.Failed, Role.TheVariants.{Failover, Following, Promoted}}, Messages.{end, int, tme, val}, Pair.{on_b, with_link}, PairSlots.{seen, zero_message}}
use Rattle.slots.specs.{Slots.padded}
use Rattle.cases.specs.{Example.{case_a, case_c, example}, Guest.status, Trials.{ACK, BEND, BINT, BSTEP, card_b, card_p, DETECT, entry, epoch_no, FAIL, LINK, pair_after, PEND, PINT, Prints, PSTEP, PTIME, Refuses, RefusesAfter, repeated, stages, Stands, trial_from}}

-- ---- the first card, and the columns of its refusals

-- r1 = clock; START on device 2 with the word r1; L = 2
unfoldable pub clocked : List ℕ
clocked = 16 ∷ 1 ∷ 0 ∷ 0 ∷ 17 ∷ 1 ∷ 2 ∷ 3 ∷ []

-- a whole epoch of `clocked` on P, with c for TIME and d for the clock sent; every message arrives and is acknowledged
unfoldable pub whole_epoch : ℕ → ℕ → List (List ℕ)
whole_epoch c d = PSTEP c ∷ PSTEP 0 ∷ PTIME d ∷ LINK ∷ LINK ∷ ACK ∷ ACK ∷ PEND ∷ LINK ∷ ACK ∷ []

-- P waits, with clock 5 sent, and operation 1 is completed
unfoldable pub told_waiting : List (List ℕ)
told_waiting = PSTEP 0 ∷ PSTEP 0 ∷ PTIME 5 ∷ PINT 1 1 9 ∷ LINK ∷ LINK ∷ ACK ∷ []

pub record FirstCard : Type 0 where
  -- P0: TIME reads the word, and sends it in a Val of P's epoch
  pub time : (card_p clocked 2 (PSTEP 10 ∷ [])).guest.regs ≡ 0 ∷ 10 ∷ 0 ∷ 0 ∷ 0 ∷ 0 ∷ 0 ∷ 0 ∷ []
  pub sends_val : (seen (pair_after clocked 2 (PSTEP 10 ∷ []))).link ≡ val (epoch_no 1) 10 ∷ []
  -- START sends no message
  pub sends_none : (seen (pair_after example 2 (take 2 case_c))).link ≡ []
  -- P2: P's epochs are counted from 1, each end is that of the epoch that P leaves, and each START shows
  pub epochs : Prints clocked 2 (whole_epoch 10 11 ++ whole_epoch 20 21) (entry 1 2 10 ∷ entry 2 2 20 ∷ [])
  pub inbox : (seen (pair_after clocked 2 (whole_epoch 10 11))).inbox ≡ val (epoch_no 1) 10 ∷ tme (epoch_no 1) 11 ∷ end (epoch_no 1) ∷ []
  pub second : (card_p clocked 2 (whole_epoch 10 11)).epoch ≡ epoch_no 2
  -- PTIME: "not complete, or waiting 3"; PEND: "not waiting 3"
  pub time_early : RefusesAfter example 2 (PSTEP 0 ∷ []) (PTIME 0) 3
  pub time_again : RefusesAfter example 2 (PSTEP 0 ∷ PSTEP 0 ∷ PTIME 0 ∷ []) (PTIME 0) 3
  pub end_early : RefusesAfter example 2 (PSTEP 0 ∷ PSTEP 0 ∷ []) PEND 3
  -- PINT while P waits is taken; its Int follows the Tme, and PEND waits for its acknowledgement too
  pub told_link : (seen (pair_after example 2 (take 4 told_waiting))).link ≡ tme (epoch_no 1) 5 ∷ int (epoch_no 1) (status 1 1 9) ∷ []
  pub told_waits : RefusesAfter example 2 told_waiting PEND 4
  pub told_queue : (card_p example 2 (told_waiting ++ (ACK ∷ PEND ∷ []))).guest.queue ≡ status 1 1 9 ∷ []
  -- LINK and ACK: "none in flight 4"
  pub link_none : RefusesAfter example 2 [] LINK 4
  pub ack_none : RefusesAfter example 2 (PSTEP 0 ∷ PSTEP 0 ∷ PTIME 0 ∷ []) ACK 4
  -- "P failed 2", while LINK goes on
  pub dead_step : RefusesAfter example 2 (FAIL ∷ []) (PSTEP 0) 2
  pub dead_int : RefusesAfter example 2 (take 2 case_c ++ (FAIL ∷ [])) (PINT 1 1 9) 2
  pub dead_time : RefusesAfter example 2 (take 2 case_c ++ (FAIL ∷ [])) (PTIME 0) 2
  pub dead_end : RefusesAfter example 2 (FAIL ∷ []) PEND 2
  pub dead_ack : RefusesAfter example 2 (take 3 case_c ++ (FAIL ∷ LINK ∷ [])) ACK 2
  pub dead_fail : RefusesAfter example 2 (FAIL ∷ []) FAIL 2

-- ---- the second card while it follows

-- B's two instructions of an epoch, with words that must not be read
unfoldable pub b_steps : List (List ℕ)
b_steps = BSTEP 91 ∷ BSTEP 92 ∷ []

-- P goes through epoch 1; B enters it, and goes through it
unfoldable pub following : List (List ℕ)
following = whole_epoch 10 11 ++ (BEND 90 ∷ []) ++ b_steps

-- P goes through epochs 1 and 2; B enters epoch 2
unfoldable pub into_epoch2 : List (List ℕ)
into_epoch2 = whole_epoch 10 11 ++ whole_epoch 20 21 ++ (BEND 90 ∷ []) ++ b_steps ++ (BEND 90 ∷ [])

-- the guest on entry to epoch 2
unfoldable pub on_entry2 : Guest
on_entry2 =
    record {
      pc = 0;
      done = 0;
      times = 0;
      armed = false;
      deadline = 0;
      regs = 0 ∷ 10 ∷ 0 ∷ 1 ∷ 0 ∷ 0 ∷ 0 ∷ 0 ∷ [];
      mem = replicate 64 0;
      last = record { 0 = 1 };
      table = record { 0 = 1 } ∷ [];
      queue = [];
    }

-- Epochs 1 to 3 on P, with operation 1 completed in epoch 2; in epoch 4 P reads its clock and stops. B is in epoch 0 all this time, and then enters epoch 1
unfoldable pub lagging : List (List ℕ)
lagging =
    whole_epoch 10 11
    ++ (PSTEP 20 ∷ PSTEP 0 ∷ PINT 1 1 9 ∷ PTIME 21 ∷ LINK ∷ LINK ∷ LINK ∷ ACK ∷ ACK ∷ ACK ∷ PEND ∷ LINK ∷ ACK ∷ [])
    ++ whole_epoch 30 31
    ++ (PSTEP 40 ∷ FAIL ∷ LINK ∷ DETECT ∷ BEND 90 ∷ [])

pub record SecondCard : Type 0 where
  -- BSTEP: "epoch 0 .. 3"; BEND: "following, and neither case applies 4"
  pub step_idle : RefusesAfter example 2 [] (BSTEP 0) 3
  pub end_alone : RefusesAfter example 2 [] (BEND 0) 4
  -- P5: [end, 1] lets B into epoch 1, and does not let it into epoch 2
  pub entered : Stands clocked 2 following (Following, 1, [])
  pub stays : RefusesAfter clocked 2 following (BEND 93) 4
  -- BSTEP: "complete 3"; BEND: "epoch not 0 and not complete 3"
  pub step_done : RefusesAfter clocked 2 following (BSTEP 93) 3
  pub end_early : RefusesAfter clocked 2 (take 12 following) (BEND 92) 3
  -- P6: TIME reads P's 10, not its own 91, and takes the Val out; START shows nothing
  pub reads : (card_b clocked 2 following).guest.regs ≡ 0 ∷ 10 ∷ 0 ∷ 1 ∷ 0 ∷ 0 ∷ 0 ∷ 0 ∷ []
  pub inbox : (seen (pair_after clocked 2 following)).inbox ≡ tme (epoch_no 1) 11 ∷ end (epoch_no 1) ∷ []
  pub hidden : Prints clocked 2 following (entry 1 2 10 ∷ [])
  -- the messages of an epoch leave with it; the guests are equal on entry
  pub left : (seen (pair_after clocked 2 into_epoch2)).inbox ≡ val (epoch_no 2) 20 ∷ tme (epoch_no 2) 21 ∷ end (epoch_no 2) ∷ []
  pub guest_p : (card_p clocked 2 (whole_epoch 10 11)).guest ≡ on_entry2
  pub guest_b : (card_b clocked 2 into_epoch2).guest ≡ on_entry2
  -- Three epochs behind at the stop. An end that has come goes before the stop that is known (P5 before P7): B follows into epochs 1, 2 and 3.
  -- The Int of epoch 2 is delivered at the end of epoch 2, not of epoch 1. No end of epoch 4 comes, so epoch 4 is the failover epoch;
  -- at its end 2, 3 and 4 are uncertain, and 1, of which B was told, is not
  pub lags :
      stages clocked (pair_after clocked 2 lagging) (b_steps ++ (BEND 90 ∷ [])) 4
      ≡ (Following, 1, [])
      ∷ (Following, 2, [])
      ∷ (Following, 3, status 1 1 9 ∷ [])
      ∷ (Failover, 4, status 1 1 9 ∷ [])
      ∷ (Promoted, 5, status 1 1 9 ∷ status 2 2 0 ∷ status 2 3 0 ∷ status 2 4 0 ∷ [])
      ∷ []
  -- in the failover epoch B reads P's 40 and shows nothing; promoted, it reads its own 91 and shows
  pub shows : Prints clocked 2 (lagging ++ repeated 4 (b_steps ++ (BEND 90 ∷ [])) ++ b_steps) (entry 1 2 10 ∷ entry 2 2 20 ∷ entry 3 2 30 ∷ entry 5 2 91 ∷ [])

-- ---- the clock of a boundary, and the timer

-- r1 = 7; START on device 2; TIMER r0; L = 3
unfoldable pub alarms : List ℕ
alarms = 1 ∷ 1 ∷ 0 ∷ 7 ∷ 17 ∷ 1 ∷ 2 ∷ 3 ∷ 18 ∷ 0 ∷ 0 ∷ 0 ∷ []

-- a whole epoch of `alarms` on P, with d for the clock sent
unfoldable pub alarm_epoch : ℕ → List (List ℕ)
alarm_epoch d = repeated 3 (PSTEP 0 ∷ []) ++ (PTIME d ∷ LINK ∷ ACK ∷ PEND ∷ LINK ∷ ACK ∷ [])

-- TIMER r0; TAKE; L = 2
unfoldable pub rung : List ℕ
rung = 18 ∷ 0 ∷ 0 ∷ 0 ∷ 8 ∷ 1 ∷ 2 ∷ 3 ∷ []

-- P stops with an operation out and its timer armed; B goes through the epoch, and ends it with 5 for its clock
unfoldable pub due_at_failover : List (List ℕ)
due_at_failover = repeated 3 (PSTEP 0 ∷ []) ++ (FAIL ∷ DETECT ∷ BEND 0 ∷ []) ++ repeated 3 (BSTEP 0 ∷ []) ++ (BEND 5 ∷ [])

-- the same, but P has sent its clock 9 and waits when it stops
unfoldable pub stop_waiting : List (List ℕ)
stop_waiting = repeated 3 (PSTEP 0 ∷ []) ++ (PTIME 9 ∷ FAIL ∷ LINK ∷ DETECT ∷ BEND 0 ∷ []) ++ repeated 3 (BSTEP 0 ∷ []) ++ (BEND 5 ∷ [])

pub record Clocks : Type 0 where
  -- PEND: "boundary with the clock sent"; BEND: "its first Tme there", not the event's 77
  pub clock_sent : (card_p alarms 3 (alarm_epoch 9)).guest.queue ≡ status 3 0 9 ∷ []
  pub clock_read : Stands alarms 3 (alarm_epoch 9 ++ alarm_epoch 8 ++ (BEND 70 ∷ BSTEP 71 ∷ BSTEP 72 ∷ BSTEP 73 ∷ BEND 77 ∷ [])) (Following, 2, status 3 0 9 ∷ [])
  -- the timer's acts wait while its interrupt is untaken
  pub untaken : (card_p alarms 3 (alarm_epoch 9 ++ alarm_epoch 10)).guest.queue ≡ status 3 0 9 ∷ []
  pub still_armed : (card_p alarms 3 (alarm_epoch 9 ++ alarm_epoch 10)).guest.armed ≡ true
  -- a timer that is due at the failover boundary comes after P8's interrupt, with the event's word for its clock
  pub failover : Stands alarms 3 due_at_failover (Promoted, 2, status 2 1 0 ∷ status 3 0 5 ∷ [])
  -- P stopped while it waited, and its Tme arrived: the failover boundary takes P's 9 and not the event's 5
  pub waiting : Stands alarms 3 stop_waiting (Promoted, 2, status 2 1 0 ∷ status 3 0 9 ∷ [])
  -- "Promoted: boundary with .. the word"
  pub promoted : Stands rung 2 (FAIL ∷ DETECT ∷ BEND 0 ∷ BSTEP 0 ∷ BSTEP 0 ∷ BEND 5 ∷ BSTEP 0 ∷ BSTEP 0 ∷ BEND 6 ∷ []) (Promoted, 3, status 3 0 6 ∷ [])

-- ---- the stop, and what devices tell B

-- START on device 2; L = 1
unfoldable pub starter : List ℕ
starter = 17 ∷ 1 ∷ 2 ∷ 3 ∷ []

-- the second card is promoted, and has started operation 2
unfoldable pub promotion : List (List ℕ)
promotion = FAIL ∷ DETECT ∷ BEND 0 ∷ BSTEP 0 ∷ BEND 0 ∷ BSTEP 0 ∷ []

pub record Switching : Type 0 where
  -- DETECT: "not failed, or detected 3"
  pub detect_alive : RefusesAfter example 2 [] DETECT 3
  pub detect_again : RefusesAfter example 2 (FAIL ∷ DETECT ∷ []) DETECT 3
  -- "P halts for good, clock sent becomes 0"
  pub halted : (pair_after alarms 3 (take 5 stop_waiting)).phase ≡ Failed
  -- and all else stays: the card, what is on the link, the acknowledgements in flight; LINK goes on and adds one
  pub keeps_buffer : (card_p example 2 (take 4 case_c)).buffer ≡ status 1 1 9 ∷ []
  pub keeps_guest : (card_p example 2 (take 4 case_c)).guest.table ≡ record { 0 = 1 } ∷ []
  pub keeps_link : (seen (pair_after example 2 (take 4 case_c))).link ≡ int (epoch_no 1) (status 1 1 9) ∷ []
  pub keeps_acks : (pair_after example 2 (take 3 case_c ++ (LINK ∷ FAIL ∷ []))).acks ≡ 1
  pub link_goes_on : (pair_after example 2 (take 5 case_c)).acks ≡ 1
  -- P3: a BINT before promotion is taken and ignored, for any operation: in epoch 0; and in the failover epoch, where 1 is uncertain all the same
  pub int_idle : trial_from example (pair_after example 2 []) (BINT 1 1 9 ∷ []) ≡ record { answers = 0 ∷ []; shown = []; pair = pair_after example 2 [] }
  pub int_failover : Stands example 2 (take 7 case_a ++ (BINT 1 1 9 ∷ BEND 0 ∷ [])) (Promoted, 2, status 2 1 0 ∷ [])
  -- after promotion it is buffered: "not in B's table or already buffered 5"; the boundary delivers it
  pub int_unknown : RefusesAfter starter 1 promotion (BINT 1 1 9) 5
  pub int_twice : RefusesAfter starter 1 (promotion ++ (BINT 1 2 8 ∷ [])) (BINT 1 2 8) 5
  pub int_buffer : (card_b starter 1 (promotion ++ (BINT 1 2 8 ∷ []))).buffer ≡ status 1 2 8 ∷ []
  pub int_queue : Stands starter 1 (promotion ++ (BINT 1 2 8 ∷ BEND 0 ∷ [])) (Promoted, 3, status 2 1 0 ∷ status 1 2 8 ∷ [])
  -- the card that stopped starts nothing more
  pub dead : RefusesAfter starter 1 promotion (PSTEP 0) 2

-- ---- the inbox: "LINK: .. inbox full 6"

-- P has read its clock, and its Val is on the link; n messages are in B's inbox
unfoldable pub waiting_in_inbox : ℕ → Pair
waiting_in_inbox n = let s : Pair = pair_after clocked 2 (PSTEP 10 ∷ []) in on_b s s.b s.role (padded 128 zero_message (replicate n (end (epoch_no 1))))

pub record Inbox : Type 0 where
  -- the 128th is taken, the 129th is not
  pub room : (trial_from clocked (waiting_in_inbox 127) (LINK ∷ [])).answers ≡ 0 ∷ []
  pub full : Refuses clocked (waiting_in_inbox 128) LINK 6
  -- "none in flight 4" comes first
  pub full_and_none : Refuses clocked (with_link (waiting_in_inbox 128) (replicate 58 zero_message)) LINK 4
  -- "oldest message moves to B's inbox", to its end; "acknowledgement sets out"
  pub oldest : (seen (pair_after example 2 (take 5 told_waiting))).inbox ≡ tme (epoch_no 1) 5 ∷ []
  pub youngest : (seen (pair_after example 2 (take 5 told_waiting))).link ≡ int (epoch_no 1) (status 1 1 9) ∷ []
  pub behind : (seen (pair_after example 2 (take 6 told_waiting))).inbox ≡ tme (epoch_no 1) 5 ∷ int (epoch_no 1) (status 1 1 9) ∷ []
  pub acks : (pair_after example 2 (take 6 told_waiting)).acks ≡ 2
