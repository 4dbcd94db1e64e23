-- "each refusal comes in the named situation and in no other": for each number, the situations in which an event is answered so.
-- An earlier refusal of 01's order has precedence, so each situation says which did not come before it.
use Rattle.std.specs.Prelude.{false, true, List, [], ◌↔◌, ◌⊎◌, ◌≡◌, ◌*◌, ◌≤◌, ℕ, length}
use Rattle.rules.specs.Bytes.{read_event, stepped}
use Rattle.rules.specs.Events.{malformed}
use Rattle.rules.specs.Instruction.{complete}
use Rattle.rules.specs.Messages.{has_end}
use Rattle.rules.specs.Pair.{awaited, idle, is_failed, is_promoted, is_waiting, next_epoch, setup_of}
use Rattle.rules.specs.PairSlots.{answer_number, made, seen, sound_pair}
use Rattle.rules.specs.Program.{bad, good, under}
use Rattle.rules.specs.Sound.{unacknowledged}
use Rattle.rules.specs.declared.Event.{Event}
use Rattle.rules.specs.declared.Event.TheVariants.{Ack, BEnd, BInt, BStep, Detect, Fail, Link, PEnd, PInt, PStep, PTime}
use Rattle.rules.specs.declared.Interrupt.{Interrupt}
use Rattle.rules.specs.declared.Pair.{Pair}
use Rattle.rules.specs.declared.Role.TheVariants.{Following}
use Rattle.std.specs.Prelude.{Some, None}

-- The bytes say the event ev, and it comes to its own column: not malformed (1), the pair sound (11), the program 4N bytes long (8)
pub record Comes (code : List ℕ) (s : Pair) (bytes : List ℕ) (ev : Event) : Type 0 where
  pub read : read_event bytes ≡ Some ev
  pub formed : malformed ev ≡ false
  pub sound : sound_pair s ≡ true
  pub fits : length code ≡ 4 * s.count

-- below, s is the pair without its free slots

-- 2 dead: "P failed"
pub data Dying (s : Pair) : Event → Type 0 where
  pstep_dead : (w : ℕ) → is_failed s.phase ≡ true → Dying s (PStep w)
  pint_dead : (i : Interrupt) → is_failed s.phase ≡ true → Dying s (PInt i)
  ptime_dead : (w : ℕ) → is_failed s.phase ≡ true → Dying s (PTime w)
  pend_dead : is_failed s.phase ≡ true → Dying s PEnd
  ack_dead : is_failed s.phase ≡ true → Dying s Ack
  fail_dead : is_failed s.phase ≡ true → Dying s Fail

-- 3 out of turn
pub data Untimely (s : Pair) : Event → Type 0 where
  -- "epoch complete"
  pstep_done : (w : ℕ) → is_failed s.phase ≡ false → complete s.limit s.p.guest ≡ true → Untimely s (PStep w)
  -- "not complete, or waiting"
  ptime_early : (w : ℕ) → is_failed s.phase ≡ false → complete s.limit s.p.guest ≡ false → Untimely s (PTime w)
  ptime_again : (w : ℕ) → is_failed s.phase ≡ false → is_waiting s.phase ≡ true → Untimely s (PTime w)
  -- "not waiting"
  pend_early : is_failed s.phase ≡ false → is_waiting s.phase ≡ false → Untimely s PEnd
  -- "not failed, or detected"
  detect_early : is_failed s.phase ≡ false → Untimely s Detect
  detect_again : s.detected ≡ true → Untimely s Detect
  -- "epoch 0 or complete"
  bstep_idle : (w : ℕ) → idle s ≡ true → Untimely s (BStep w)
  bstep_done : (w : ℕ) → complete s.limit s.b.guest ≡ true → Untimely s (BStep w)
  -- "epoch not 0 and not complete"
  bend_early : (w : ℕ) → idle s ≡ false → complete s.limit s.b.guest ≡ false → Untimely s (BEnd w)

-- B may end its epoch: it is epoch 0, or complete
abbrev pub MayEnd : Pair → Type 0
MayEnd s = (idle s ≡ true) ⊎ (complete s.limit s.b.guest ≡ true)

-- 4 must wait
pub data Waits (s : Pair) : Event → Type 0 where
  -- "a message unacknowledged"
  pend_unacknowledged : is_waiting s.phase ≡ true → (s.p.epoch.0 ≡ 65535 → ⊥) → (unacknowledged s ≡ 0 → ⊥) → Waits s PEnd
  -- "none in flight"
  link_empty : s.link ≡ [] → Waits s Link
  ack_none : is_failed s.phase ≡ false → s.acks ≡ 0 → Waits s Ack
  -- "message in flight"
  detect_in_flight : is_failed s.phase ≡ true → s.detected ≡ false → (length s.link ≡ 0 → ⊥) → Waits s Detect
  -- "following, and neither case applies": neither [end, e_b+1] in the inbox nor the stop detected
  bend_neither : (w : ℕ) → MayEnd s → (s.b.epoch.0 ≡ 65535 → ⊥) → s.role ≡ Following → has_end (next_epoch s.b.epoch) s.inbox ≡ false → s.detected ≡ false → Waits s (BEnd w)

-- 5 unknown operation: "not in P's table or already buffered"; "promoted: not in B's table or already buffered"
pub data Unknown (s : Pair) : Event → Type 0 where
  pint_unknown : (i : Interrupt) → is_failed s.phase ≡ false → awaited s.p i.op ≡ false → Unknown s (PInt i)
  bint_unknown : (i : Interrupt) → is_promoted s.role ≡ true → awaited s.b i.op ≡ false → Unknown s (BInt i)

-- 6 inbox full
pub data Full (s : Pair) : Event → Type 0 where
  link_no_room : (s.link ≡ [] → ⊥) → 128 ≤ length s.inbox → Full s Link

-- 7 epochs used up: "epoch 65,535"
pub data UsedUp (s : Pair) : Event → Type 0 where
  pend_last : is_waiting s.phase ≡ true → s.p.epoch.0 ≡ 65535 → UsedUp s PEnd
  bend_last : (w : ℕ) → MayEnd s → s.b.epoch.0 ≡ 65535 → UsedUp s (BEnd w)

-- 8 "instruction at pc bad", after the event's column
pub data Broken (code : List ℕ) (s : Pair) : Event → Type 0 where
  pstep_bad : (w : ℕ) → is_failed s.phase ≡ false → complete s.limit s.p.guest ≡ false → bad (setup_of code s) s.p.guest ≡ true → Broken code s (PStep w)
  bstep_bad : (w : ℕ) → idle s ≡ false → complete s.limit s.b.guest ≡ false → bad (setup_of code s) s.b.guest ≡ true → Broken code s (BStep w)

-- 1 "malformed event, or not 8 bytes"
abbrev pub Misformed : List ℕ → Type 0
Misformed bytes = (read_event bytes ≡ None) ⊎ ((ev : Event) × (read_event bytes ≡ Some ev) × (malformed ev ≡ true))

-- the bytes say an event that is not malformed
abbrev pub Formed : List ℕ → Type 0
Formed bytes = (ev : Event) × (read_event bytes ≡ Some ev) × (malformed ev ≡ false)

-- the event comes to its column, and this is its situation
abbrev pub At : List ℕ → Pair → List ℕ → (Event → Type 0) → Type 0
At code s bytes Situation = (ev : Event) × Comes code s bytes ev × Situation ev

-- each number of an event, and its situation
pub record Refusals (code : List ℕ) (s : Pair) (bytes : List ℕ) : Type 0 where
  pub malformed : answer_number (stepped code s bytes).answer ≡ 1 ↔ Misformed bytes
  pub dead : answer_number (stepped code s bytes).answer ≡ 2 ↔ At code s bytes (Dying (seen s))
  pub out_of_turn : answer_number (stepped code s bytes).answer ≡ 3 ↔ At code s bytes (Untimely (seen s))
  pub must_wait : answer_number (stepped code s bytes).answer ≡ 4 ↔ At code s bytes (Waits (seen s))
  pub unknown_operation : answer_number (stepped code s bytes).answer ≡ 5 ↔ At code s bytes (Unknown (seen s))
  pub inbox_full : answer_number (stepped code s bytes).answer ≡ 6 ↔ At code s bytes (Full (seen s))
  pub epochs_used_up : answer_number (stepped code s bytes).answer ≡ 7 ↔ At code s bytes (UsedUp (seen s))
  -- "program not 4N bytes", or the instruction
  pub bad_program : answer_number (stepped code s bytes).answer ≡ 8
      ↔ ((Formed bytes × (sound_pair s ≡ true) × (length code ≡ 4 * s.count → ⊥)) ⊎ At code s bytes (Broken code (seen s)))
  pub unsound : answer_number (stepped code s bytes).answer ≡ 11 ↔ (Formed bytes × (sound_pair s ≡ false))
  -- 9 and 10 are never an event's
  pub others : (answer_number (stepped code s bytes).answer ≡ 9 → ⊥) × (answer_number (stepped code s bytes).answer ≡ 10 → ⊥)

-- set-up: "program or L bad" 8, and nothing else
pub record SetUps (code : List ℕ) (l : ℕ) : Type 0 where
  pub taken : answer_number (made (under code l)).answer ≡ 0 ↔ good (under code l) ≡ true
  pub bad_program : answer_number (made (under code l)).answer ≡ 8 ↔ good (under code l) ≡ false
