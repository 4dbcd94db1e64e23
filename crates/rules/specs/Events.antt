-- One event: refused, or the next pair and what the devices are shown.
use Rattle.std.specs.Prelude.{Bool, true, false, not, ◌&&◌, ◌||◌, List, [], ◌∷◌, ℕ, ◌*◌, length, leb, eqb}
use Rattle.slots.specs.Slots.{pick}
use Rattle.rules.specs.declared.Guest.{Guest}
use Rattle.rules.specs.declared.Ran.{Ran}
use Rattle.rules.specs.declared.EpochNo.{EpochNo}
use Rattle.rules.specs.declared.Message.{Message}
use Rattle.rules.specs.declared.Phase.TheVariants.{Running, Waiting}
use Rattle.rules.specs.declared.Role.{Role}
use Rattle.rules.specs.declared.Role.TheVariants.{Following, Failover, Promoted}
use Rattle.rules.specs.declared.Card.{Card}
use Rattle.rules.specs.declared.Pair.{Pair}
use Rattle.rules.specs.declared.Event.{Event}
use Rattle.rules.specs.declared.Event.TheVariants.{PStep, PInt, PTime, PEnd, Link, Ack, Fail, Detect, BStep, BEnd, BInt}
use Rattle.rules.specs.declared.Refusal.{Refusal}
use Rattle.rules.specs.declared.Refusal.TheVariants.{Malformed, Dead, OutOfTurn, MustWait, UnknownOperation, InboxFull, EpochsUsedUp, BadProgram, TooShort, BadFile, Unsound}
use Rattle.rules.specs.Instruction.{complete}
use Rattle.rules.specs.Boundary.{boundary, failover}
use Rattle.rules.specs.Program.{Setup, at_time, bad, exec, good}
use Rattle.rules.specs.GuestSound.{proper}
use Rattle.rules.specs.Messages.{val, int, tme, end, vals, ints, tmes, has_end, drop_val, drop_epoch, first}
use Rattle.rules.specs.Pair.{is_failed, is_waiting, clock_sent, is_promoted, next_epoch, idle, awaited, ran_on, buffers, enters, on_p, on_b, received, acknowledged, halted, noticed, setup_of, fresh_pair}
use Rattle.rules.specs.Sound.{sound, unacknowledged}
use Rattle.rules.specs.declared.RecordEntry.{RecordEntry}
use Rattle.std.specs.Prelude.{None, Option}

-- "Numbers that come back"
unfoldable pub number : Refusal → ℕ
number Malformed = 1
number Dead = 2
number OutOfTurn = 3
number MustWait = 4
number UnknownOperation = 5
number InboxFull = 6
number EpochsUsedUp = 7
number BadProgram = 8
number TooShort = 9
number BadFile = 10
number Unsound = 11

-- refused: the pair and the record stay as they were. taken: the next pair, and what is shown
pub data Verdict : Type 0 where
  refused : Refusal → Verdict
  taken : Pair → Option RecordEntry → Verdict

-- refused for this reason where the test holds
unfoldable pub refuse : Bool → Refusal → Verdict → Verdict
refuse true why v = refused why
refuse false why v = v

-- "kind" of an event, 1 to 11
unfoldable pub kind : Event → ℕ
kind (PStep w) = 1
kind (PInt i) = 2
kind (PTime w) = 3
kind PEnd = 4
kind Link = 5
kind Ack = 6
kind Fail = 7
kind Detect = 8
kind (BStep w) = 9
kind (BEnd w) = 10
kind (BInt i) = 11

-- "Kinds 2 and 11 use status 1 or 2, operation 1 to 65,535, data in the word, data 0 for status 2"
unfoldable pub malformed : Event → Bool
malformed (PStep w) = false
malformed (PInt i) = not (proper i)
malformed (PTime w) = false
malformed PEnd = false
malformed Link = false
malformed Ack = false
malformed Fail = false
malformed Detect = false
malformed (BStep w) = false
malformed (BEnd w) = false
malformed (BInt i) = not (proper i)

-- LINK (P4): "none in flight 4; inbox full 6"
unfoldable pub linked : Pair → List Message → Verdict
linked s [] = refused MustWait
linked s (m ∷ ms) = refuse (leb 128 (length s.inbox)) InboxFull (taken (received s m ms) None)

-- "do the boundary of e_b with its Ints in inbox order and its first Tme there (else the word)"; "At epoch 0 no boundary is done and no clock taken"
unfoldable pub turned : Bool → EpochNo → Guest → List Message → ℕ → Guest
turned i e g ms w = pick i g (boundary (ints e ms) (first (tmes e ms) w) g)

-- the failover boundary: "with the Ints received, the first Tme if received, else the word", and P8
unfoldable pub turned_last : EpochNo → Guest → List Message → ℕ → Guest
turned_last e g ms w = failover (ints e ms) (first (tmes e ms) w) g

-- BEND, by role. Following: "if [end, e_b+1] is in the inbox (P5), or else if the stop is detected (P7, failover begins)"
unfoldable pub ended : Pair → ℕ → Role → Verdict
ended s w Following =
    refuse (not (has_end (next_epoch s.b.epoch) s.inbox) && not s.detected) MustWait
    (taken
    (on_b s
    (enters s.b (turned (idle s) s.b.epoch s.b.guest s.inbox w))
    (pick (has_end (next_epoch s.b.epoch) s.inbox) Following Failover)
    (drop_epoch s.b.epoch s.inbox))
    None)
ended s w Failover =
    taken (on_b s (enters s.b (turned_last s.b.epoch s.b.guest s.inbox w)) Promoted (drop_epoch s.b.epoch s.inbox)) None
ended s w Promoted =
    taken (on_b s (enters s.b (boundary s.b.buffer w s.b.guest)) Promoted s.inbox) None

module _ (S : Setup) where
  -- the Val that P's instruction sends, if it is TIME (P0)
  unfoldable pub sends : Card → ℕ → List Message
  sends c w = pick (at_time S c.guest) (val c.epoch w ∷ []) []

  -- what is left in B's inbox after its instruction: TIME "reads the first Val of B's epoch in the inbox and removes it" (P6)
  unfoldable pub unread : EpochNo → Guest → List Message → List Message
  unread e g ms = pick (at_time S g) (drop_val e ms) ms

  -- the table of events: each column of refusals from left to right, then "instruction at pc bad" 8
  unfoldable pub handle : Pair → Event → Verdict
  handle s (PStep w) =
      refuse (is_failed s.phase) Dead
      (refuse (complete S.limit s.p.guest) OutOfTurn
      (refuse (bad S s.p.guest) BadProgram
      (taken (on_p s (ran_on s.p (exec S s.p.guest w).guest) s.phase (sends s.p w)) (exec S s.p.guest w).shown)))
  handle s (PInt i) =
      refuse (is_failed s.phase) Dead
      (refuse (not (awaited s.p i.op)) UnknownOperation
      (taken (on_p s (buffers s.p i) s.phase (int s.p.epoch i ∷ [])) None))
  handle s (PTime w) =
      refuse (is_failed s.phase) Dead
      (refuse (not (complete S.limit s.p.guest) || is_waiting s.phase) OutOfTurn
      (taken (on_p s s.p (Waiting w) (tme s.p.epoch w ∷ [])) None))
  handle s PEnd =
      refuse (is_failed s.phase) Dead
      (refuse (not (is_waiting s.phase)) OutOfTurn
      (refuse (eqb s.p.epoch.0 65535) EpochsUsedUp
      (refuse (not (eqb (unacknowledged s) 0)) MustWait
      (taken (on_p s (enters s.p (boundary s.p.buffer (clock_sent s.phase) s.p.guest)) Running (end s.p.epoch ∷ [])) None))))
  handle s Link = linked s s.link
  handle s Ack =
      refuse (is_failed s.phase) Dead
      (refuse (eqb s.acks 0) MustWait
      (taken (acknowledged s) None))
  handle s Fail =
      refuse (is_failed s.phase) Dead
      (taken (halted s) None)
  handle s Detect =
      refuse (not (is_failed s.phase) || s.detected) OutOfTurn
      (refuse (not (eqb (length s.link) 0)) MustWait
      (taken (noticed s) None))
  handle s (BStep w) =
      refuse (idle s || complete S.limit s.b.guest) OutOfTurn
      (refuse (bad S s.b.guest) BadProgram
      (let ran : Ran = exec S s.b.guest (first (vals s.b.epoch s.inbox) w) in
      taken (on_b s (ran_on s.b ran.guest) s.role (unread s.b.epoch s.b.guest s.inbox)) (pick (is_promoted s.role) ran.shown None)))
  handle s (BEnd w) =
      refuse (not (idle s) && not (complete S.limit s.b.guest)) OutOfTurn
      (refuse (eqb s.b.epoch.0 65535) EpochsUsedUp
      (ended s w s.role))
  handle s (BInt i) =
      refuse (is_promoted s.role && not (awaited s.b i.op)) UnknownOperation
      (taken (pick (is_promoted s.role) (on_b s (buffers s.b i) s.role s.inbox) s) None)

-- "Order for an event: 1, 11, program length 8, the event's column, bad instruction 8"; the first three, with what `is_sound` says of the pair
unfoldable pub in_front : Bool → List ℕ → Pair → Event → Verdict → Verdict
in_front is_sound code s ev v =
    refuse (malformed ev) Malformed
    (refuse (not is_sound) Unsound
    (refuse (not (eqb (length code) (4 * s.count))) BadProgram v))

-- one event, on the pair without its free slots
unfoldable pub step : List ℕ → Pair → Event → Verdict
step code s ev = in_front (sound s) code s ev (handle (setup_of code s) s ev)

-- a program and L to a fresh pair, or "program or L bad"
unfoldable pub set_up : Setup → Verdict
set_up S = refuse (not (good S)) BadProgram (taken (fresh_pair S) None)
