-- "Sound", clause by clause: a sound pair with one thing wrong, and where a clause has an edge, the pair that still is sound there.
-- Form, flags and zero fields are an image's alone, and stand in crate layout.
use mathlib.Core.{Bool.{false, true}, List.{[], ◌++◌, ◌∷◌, List, map}, Path.◌≡◌}
use Rattle.std.specs.Prelude.{ℕ, replicate, take}
use borrow.Fn.PlainCycle.{is}
use Rattle.rules.specs.{Boundary.uncertain, Bytes.stepped, declared.{Guest.Guest, Interrupt.Interrupt, Message.Message, OpNo.OpNo, Pair.Pair, Phase.TheVariants.{Failed, Running, Waiting}, Role.TheVariants.{Failover, Following, Promoted}}, Guest.{fresh, with_counts, with_last, with_queue, with_table, with_timer}, GuestSlots.{zero_interrupt, zero_op}, Messages.{end, int, tme, val}, Pair.{ran_on, with_acks, with_b, with_count, with_detected, with_inbox, with_limit, with_link, with_p, with_phase, with_role}, PairSlots.{laid, seen, sound_pair, zero_message}, Sound.sound}
use Rattle.slots.specs.{Slots.padded}
use Rattle.cases.specs.{Cards.told_waiting, Example.{case_c, example}, Guest.{status, up_to}, Trials.{ACK, epoch_no, LINK, pair_after, PEND, PSTEP, Refuses, trial_from}}

-- ---- the pair that is changed

-- N = 5 and L = 3. P waits in epoch 4, with every place at its edge: the last pc, all instructions done, one TIME; operations 1 and 2 out,
-- 1 buffered, 3 completed in the queue beside a timer's interrupt; as many messages unacknowledged as there may be
unfoldable pub guest_p : Guest
guest_p =
    record {
      pc = 4;
      done = 3;
      times = 1;
      armed = true;
      deadline = 5;
      regs = replicate 8 0;
      mem = replicate 64 0;
      last = record { 0 = 3 };
      table = up_to 2;
      queue = status 1 3 8 ∷ status 3 0 4 ∷ [];
    }

unfoldable pub on_link : List Message
on_link = val (epoch_no 4) 7 ∷ int (epoch_no 4) (status 1 1 9) ∷ tme (epoch_no 4) 6 ∷ []

unfoldable pub in_inbox : List Message
in_inbox = val (epoch_no 2) 7 ∷ int (epoch_no 2) (status 2 1 0) ∷ tme (epoch_no 2) 6 ∷ end (epoch_no 2) ∷ []

unfoldable pub waiting : Pair
waiting =
    record {
      p = record { guest = guest_p; epoch = epoch_no 4; buffer = status 1 1 9 ∷ [] };
      phase = Waiting 6;
      b = record { guest = with_timer guest_p false 0; epoch = epoch_no 2; buffer = [] };
      role = Following;
      detected = false;
      limit = 3;
      count = 5;
      link = on_link;
      acks = 1;
      inbox = in_inbox;
    }

-- the same once P has stopped and B is promoted, with an interrupt of its own buffered
unfoldable pub promoted : Pair
promoted = with_b (with_role (with_detected (with_phase waiting Failed) true) Promoted) (record { guest = guest_p; epoch = epoch_no 5; buffer = status 2 2 0 ∷ [] })

-- B has entered no epoch
unfoldable pub idling : Pair
idling = with_b waiting (record { guest = fresh; epoch = epoch_no 0; buffer = [] })

-- ---- one thing changed

-- P's guest, B's guest
abbrev pub guest_of_p : Pair → Guest → Pair
guest_of_p s g = with_p s (ran_on s.p g)

abbrev pub guest_of_b : Pair → Guest → Pair
guest_of_b s g = with_b s (ran_on s.b g)

abbrev pub queue_p : List Interrupt → Pair
queue_p q = guest_of_p waiting (with_queue guest_p q)

abbrev pub buffer_p : List Interrupt → Pair
buffer_p is = with_p waiting (record { guest = guest_p; epoch = epoch_no 4; buffer = is })

-- P's TIMEs, of 41 instructions with L = 41
abbrev pub times_p : ℕ → Pair
times_p n = with_limit (guest_of_p waiting (with_counts guest_p 41 n)) 41

-- 40 TIMEs and 16 operations buffered while P waits, and n acknowledgements in flight
unfoldable pub most : ℕ → Pair
most n =
    let g : Guest = with_counts (with_table (with_last (with_queue guest_p []) (record { 0 = 16 })) (up_to 16)) 40 40 in
    with_acks (with_link (with_limit (with_p waiting (record { guest = g; epoch = epoch_no 4; buffer = map uncertain (up_to 16) })) 40) []) n

-- one message in B's inbox
abbrev pub received1 : ℕ → ℕ → ℕ → ℕ → ℕ → Pair
received1 k s e n w = with_inbox waiting (record { kind = k; status = s; epoch = epoch_no e; op = record { 0 = n }; word = w } ∷ [])

-- laid out in its slots it is sound; it is not
abbrev pub Sound : Pair → Type 0
Sound s = sound_pair (laid s) ≡ true

abbrev pub Unsound : Pair → Type 0
Unsound s = sound_pair (laid s) ≡ false

-- ---- the guest

pub record SoundGuests : Type 0 where
  pub as_they_are : Sound waiting
  pub as_promoted : Sound promoted
  -- "deadline 0 unless armed"
  pub deadline : Unsound (guest_of_p waiting (with_timer guest_p false 5))
  pub unarmed : Sound (guest_of_p waiting (with_timer guest_p false 0))
  -- "pc < N"
  pub pc : Unsound (with_count waiting 4)
  -- "instructions ≤ L", on either card
  pub instructions : Unsound (guest_of_p waiting (with_counts guest_p 4 1))
  pub instructions_b : Unsound (guest_of_b waiting (with_counts waiting.b.guest 4 1))
  -- "TIMEs ≤ 40 and ≤ instructions"
  pub times40 : Sound (times_p 40)
  pub times41 : Unsound (times_p 41)
  pub times_above : Unsound (guest_of_b waiting (with_counts waiting.b.guest 2 3))
  pub times_all : Sound (guest_of_b waiting (with_counts waiting.b.guest 2 2))
  -- "table ascending and ≤ the last number"
  pub descending : Unsound (guest_of_p waiting (with_table guest_p (record { 0 = 2 } ∷ record { 0 = 1 } ∷ [])))
  pub again : Unsound (guest_of_p waiting (with_table guest_p (record { 0 = 1 } ∷ record { 0 = 1 } ∷ [])))
  pub above_last : Unsound (guest_of_p waiting (with_table guest_p (record { 0 = 1 } ∷ record { 0 = 4 } ∷ [])))
  pub up_to_last : Sound (guest_of_p waiting (with_table guest_p (record { 0 = 1 } ∷ record { 0 = 3 } ∷ [])))
  -- "queue statuses 1 to 3", "device entries with operation 1 to 65,535, uncertain data 0, at most one timer entry (operation 0)"
  pub status4 : Unsound (queue_p (status 4 1 0 ∷ []))
  pub status2 : Sound (queue_p (status 2 65535 0 ∷ []))
  pub operation0 : Unsound (queue_p (status 1 0 9 ∷ []))
  pub uncertain_data : Unsound (queue_p (status 2 1 9 ∷ []))
  pub two_timers : Unsound (queue_p (status 3 0 4 ∷ status 3 0 5 ∷ []))
  pub timer_operation : Unsound (queue_p (status 3 1 4 ∷ []))
  -- "table plus device entries ≤ 16": 2 and 15, 2 and 14; the timer's does not count
  pub seventeen : Unsound (queue_p (replicate 15 (status 1 3 8)))
  pub sixteen : Sound (queue_p (replicate 14 (status 1 3 8) ++ (status 3 0 4 ∷ [])))

-- ---- buffers and messages

pub record SoundMessages : Type 0 where
  -- "in buffers 1 or 2", "uncertain data 0"
  pub status3 : Unsound (buffer_p (status 3 1 0 ∷ []))
  pub status2 : Sound (buffer_p (status 2 1 0 ∷ []))
  pub uncertain_data : Unsound (buffer_p (status 2 1 9 ∷ []))
  -- "each buffered operation in its guest's table, once"
  pub not_in_table : Unsound (buffer_p (status 1 3 9 ∷ []))
  pub twice : Unsound (buffer_p (status 1 1 9 ∷ status 1 1 9 ∷ []))
  pub both : Sound (buffer_p (status 1 2 9 ∷ status 1 1 9 ∷ []))
  pub not_in_table_b : Unsound (with_b promoted (record { guest = guest_p; epoch = epoch_no 5; buffer = status 1 3 9 ∷ [] }))
  -- "messages with kind 1 to 4, epoch 1 to 65,535"
  pub kind5 : Unsound (received1 5 0 2 0 0)
  pub epoch0 : Unsound (received1 1 0 0 0 7)
  pub epoch65535 : Sound (received1 1 0 65535 0 7)
  pub on_the_link : Unsound (with_link waiting (val (epoch_no 0) 7 ∷ []))
  -- "Ints as in PINT"
  pub int_status0 : Unsound (received1 2 0 2 1 0)
  pub int_status3 : Unsound (received1 2 3 2 1 0)
  pub int_operation0 : Unsound (received1 2 1 2 0 9)
  pub int_uncertain_data : Unsound (received1 2 2 2 1 9)
  pub int : Sound (received1 2 1 2 65535 9)
  -- "and unused fields 0": Val, Tme, end
  pub val_status : Unsound (received1 1 1 2 0 7)
  pub val_operation : Unsound (received1 1 0 2 1 7)
  pub tme_status : Unsound (received1 3 1 2 0 7)
  pub tme_operation : Unsound (received1 3 0 2 1 7)
  pub end_status : Unsound (received1 4 1 2 0 0)
  pub end_operation : Unsound (received1 4 0 2 1 0)
  pub end_word : Unsound (received1 4 0 2 0 7)
  -- "messages on the link plus acknowledgements in flight ≤ 1 + P's TIMEs + P's buffered + (1 if waiting or failed)": 3 and 1 are at that bound
  pub one_more : Unsound (with_acks waiting 2)
  pub without_times : Unsound (guest_of_p waiting (with_counts guest_p 3 0))
  pub without_buffered : Unsound (buffer_p [])
  pub without_waiting : Unsound (with_phase waiting Running)
  pub failed : Sound (with_phase waiting Failed)
  pub failed_one_more : Unsound (with_acks (with_phase waiting Failed) 2)
  pub all_four : Sound (with_acks (with_link waiting []) 4)
  -- "and 58"
  pub fifty_eight : Sound (most 58)
  pub fifty_nine : Unsound (most 59)
  -- "B's inbox (128)": in the model, where nothing else bounds it
  pub inbox128 : sound (with_inbox waiting (replicate 128 (end (epoch_no 2)))) ≡ true
  pub inbox129 : sound (with_inbox waiting (replicate 129 (end (epoch_no 2)))) ≡ false

-- ---- phases and epochs

pub record SoundPhases : Type 0 where
  -- "L 1 to 4,096, N 1 to 1,024"
  pub limit0 : Unsound (with_limit (seen (pair_after example 2 [])) 0)
  pub limit1 : Sound (with_limit (seen (pair_after example 2 [])) 1)
  pub limit4096 : Sound (with_limit (with_phase waiting Failed) 4096)
  pub limit4097 : Unsound (with_limit (with_phase waiting Failed) 4097)
  pub count0 : Unsound (with_count (seen (pair_after example 2 [])) 0)
  pub count1 : Sound (with_count (seen (pair_after example 2 [])) 1)
  pub count1024 : Sound (with_count waiting 1024)
  pub count1025 : Unsound (with_count waiting 1025)
  -- "e_p 1 to 65,535"
  pub epoch_p : Unsound (with_p waiting (record { guest = guest_p; epoch = epoch_no 0; buffer = waiting.p.buffer }))
  -- "e_b 0 only while following and with no instructions done"
  pub idle : Sound idling
  pub idle_failover : Unsound (with_role (with_detected (with_phase idling Failed) true) Failover)
  pub idle_done : Unsound (guest_of_b idling (with_counts fresh 1 0))
  -- "waiting only when complete"
  pub incomplete : Unsound (with_limit waiting 4)
  -- "detected only when failed; failover and promoted only when detected"
  pub detected : Unsound (with_detected waiting true)
  pub stop_detected : Sound (with_detected (with_phase waiting Failed) true)
  pub failover : Unsound (with_role (with_phase waiting Failed) Failover)
  pub promoted_alone : Unsound (with_detected promoted false)
  -- "B's buffer empty unless promoted"
  pub buffer_following : Unsound (with_role promoted Following)
  pub buffer_failover : Unsound (with_role promoted Failover)

-- ---- slots: "slots filled from the front, the rest zero"

-- a free slot in front of a filled one, in an array of n; and a slot that counts as free and still holds a word
abbrev pub gap : {A : Type 0} → ℕ → A → A → List A
gap n z x = z ∷ padded n z (x ∷ [])

-- a fresh pair in memory, with other slots in P's table, queue or buffer, in B's buffer, on the link or in the inbox
abbrev pub in_memory : Pair
in_memory = pair_after example 2 []

abbrev pub table_slots : List OpNo → Pair
table_slots os = guest_of_p in_memory (with_table in_memory.p.guest os)

abbrev pub queue_slots : List Interrupt → Pair
queue_slots is = guest_of_p in_memory (with_queue in_memory.p.guest is)

abbrev pub buffer_slots : List Interrupt → Pair
buffer_slots is = with_p in_memory (record { guest = in_memory.p.guest; epoch = epoch_no 1; buffer = is })

abbrev pub buffer_slots_b : List Interrupt → Pair
buffer_slots_b is = with_b in_memory (record { guest = in_memory.b.guest; epoch = epoch_no 0; buffer = is })

abbrev pub UnsoundSlots : Pair → Type 0
UnsoundSlots s = sound_pair s ≡ false

abbrev pub left_message : Message
left_message = record { kind = 0; status = 0; epoch = epoch_no 0; op = zero_op; word = 9 }

pub record Slots : Type 0 where
  -- what leaves leaves zeros: the buffer and the table at a boundary, the queue at TAKE, the link at LINK, the inbox at BEND
  pub buffer : (pair_after example 2 (told_waiting ++ (ACK ∷ PEND ∷ []))).p.buffer ≡ replicate 16 zero_interrupt
  pub table : (pair_after example 2 (told_waiting ++ (ACK ∷ PEND ∷ []))).p.guest.table ≡ replicate 16 zero_op
  pub queue : (pair_after example 2 (told_waiting ++ (ACK ∷ PEND ∷ PSTEP 0 ∷ []))).p.guest.queue ≡ replicate 17 zero_interrupt
  pub link : (pair_after example 2 (told_waiting ++ (ACK ∷ PEND ∷ LINK ∷ []))).link ≡ replicate 58 zero_message
  pub inbox : (pair_after example 2 (take 10 case_c)).inbox ≡ replicate 128 zero_message
  -- a free slot in front of a filled one
  pub gap_in_table : UnsoundSlots (table_slots (gap 15 zero_op (record { 0 = 1 })))
  pub gap_in_queue : UnsoundSlots (queue_slots (gap 16 zero_interrupt (status 1 3 8)))
  pub gap_in_buffer : UnsoundSlots (buffer_slots (gap 15 zero_interrupt (status 1 1 9)))
  pub gap_on_link : UnsoundSlots (with_link in_memory (gap 57 zero_message (val (epoch_no 4) 7)))
  pub gap_in_inbox : UnsoundSlots (with_inbox in_memory (gap 127 zero_message (val (epoch_no 2) 7)))
  -- a slot that counts as free and still holds a word, or an operation
  pub left_in_queue : UnsoundSlots (queue_slots (status 1 3 8 ∷ status 0 0 9 ∷ replicate 15 zero_interrupt))
  pub left_operation : UnsoundSlots (queue_slots (status 1 3 8 ∷ status 0 9 0 ∷ replicate 15 zero_interrupt))
  pub left_in_buffer : UnsoundSlots (buffer_slots (status 0 0 9 ∷ replicate 15 zero_interrupt))
  pub left_in_buffer_b : UnsoundSlots (buffer_slots_b (status 0 0 9 ∷ replicate 15 zero_interrupt))
  pub left_on_link : UnsoundSlots (with_link in_memory (replicate 57 zero_message ++ (left_message ∷ [])))
  pub left_in_inbox : UnsoundSlots (with_inbox in_memory (replicate 127 zero_message ++ (left_message ∷ [])))
  -- as it is it is sound, and so it is with a queue of one; an event on an unsound pair is answered 11
  pub sound : sound_pair in_memory ≡ true
  pub sound_queue : sound_pair (queue_slots (status 1 3 8 ∷ replicate 16 zero_interrupt)) ≡ true
  pub answer : Refuses (replicate 20 0) (laid (with_acks waiting 2)) ACK 11
  pub taken : (trial_from (replicate 20 0) (laid waiting) (ACK ∷ [])).answers ≡ 0 ∷ []
  -- and hands the pair back as it came, untidy as it is
  pub handed_back : (stepped example (with_link in_memory (gap 57 zero_message (end (epoch_no 1)))) ACK).pair.link ≡ gap 57 zero_message (end (epoch_no 1))
