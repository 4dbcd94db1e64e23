-- What is promised of the pair, from an event's bytes to the outcome. Each statement stands under the sentence that it makes exact.
-- `stepped` and `made` are what the code's contracts cite; all is proved in proofs/Promises.antt.
use Rattle.std.specs.Prelude.{Bool, ◌&&◌, false, true, List, [], ◌++◌, ◌∷◌, ◌⊎◌, ◌≡◌, ◌≤◌, ℕ, eqb, get_or, length, take}
use Rattle.rules.specs.Bytes.{read_event, stepped}
use Rattle.rules.specs.Events.{handle, malformed, step, taken}
use Rattle.rules.specs.GuestSlots.{laid_guest, zero_interrupt}
use Rattle.rules.specs.History.{History, fresh_history, fresh_stored, laid_history, noted, recorded, run, run_stored}
use Rattle.rules.specs.Lone.{Lone, LoneStep, fresh_lone, lone_steps}
use Rattle.rules.specs.Messages.{only}
use Rattle.rules.specs.Pair.{is_failed, is_promoted, setup_of}
use Rattle.rules.specs.PairKept.{Sized}
use Rattle.rules.specs.PairSlots.{answer_number, apply, laid, made, seen, sound_pair, stored}
use Rattle.rules.specs.Program.{Setup, under}
use Rattle.rules.specs.Sound.{sound, unacknowledged}
use Rattle.rules.specs.declared.Event.{Event}
use Rattle.rules.specs.declared.Event.TheVariants.{BEnd, BStep}
use Rattle.rules.specs.declared.Guest.{Guest}
use Rattle.rules.specs.declared.Interrupt.{Interrupt}
use Rattle.rules.specs.declared.Outcome.{Outcome}
use Rattle.rules.specs.declared.Pair.{Pair}
use Rattle.rules.specs.declared.RecordEntry.{RecordEntry}
use Rattle.slots.specs.Slots.{folded, padded}
use Rattle.promises.specs.Refusals.{Refusals, SetUps}
use Rattle.rules.specs.Answer.{Answer}
use Rattle.std.specs.Prelude.{Option, Some, None, Ok, Err}

-- ---- runs

-- the answer is 0
unfoldable pub is_taken : Answer → Bool
is_taken (Ok tt) = true
is_taken (Err why) = false

-- a history after the outcome of one more event of kind k: PEND (kind 4) enters P's next epoch, BEND (kind 10) B's
unfoldable pub grown : ℕ → History → Outcome → History
grown k h o =
    record {
      pair = o.pair;
      shown = recorded h.shown o.shown;
      entered_p = noted h.entered_p (only (is_taken o.answer && eqb k 4) o.pair.p.guest);
      entered_b = noted h.entered_b (only (is_taken o.answer && eqb k 10) o.pair.b.guest);
    }

-- set-up from a program's bytes and L; where it is refused, nothing is made and no epoch is entered
unfoldable pub opened : List ℕ → ℕ → History
opened code l =
    let o : Outcome = made (under code l) in
    record { pair = o.pair; shown = []; entered_p = noted [] (only (is_taken o.answer) o.pair.p.guest); entered_b = [] }

-- "any events from a fresh pair under one unchanged program": the bytes of one event after the other, whatever they are
unfoldable pub ran : List ℕ → ℕ → List (List ℕ) → History
ran code l evs = folded (λ (h : History) (bytes : List ℕ). grown (get_or bytes 0 0) h (stepped code h.pair bytes)) (opened code l) evs

-- the pair that they leave
abbrev pub pair_after : List ℕ → ℕ → List (List ℕ) → Pair
pair_after code l evs = (ran code l evs).pair

-- ---- demand 3: "One card, as far as anyone can tell."

-- two lists agree as far as both go
abbrev pub Agree : List Guest → List Guest → Type 0
Agree [] hs = Unit {0}
Agree (g ∷ gs) [] = Unit {0}
Agree (g ∷ gs) (h ∷ hs) = (g ≡ h) × Agree gs hs

-- The pair's history h, and a history `steps` of the lone card under S. How the lone card's guest and buffer stand in a card of the pair
-- is said by `lays` and `fills`: in memory, laid out in their slots; in the model, as they are.
pub record Demand3 (S : Setup) (lays : Guest → Guest) (fills : List Interrupt → List Interrupt) (h : History) (steps : List LoneStep) : Type 0 where
  -- "In each epoch that both cards enter, their guests are equal on entry." The k-th guest of a list is the card's on entry to its epoch k
  pub epochs_p : length h.entered_p ≡ h.pair.p.epoch.0
  pub epochs_b : length h.entered_b ≡ h.pair.b.epoch.0
  pub agree : Agree h.entered_p h.entered_b
  -- "At every moment the devices' record is one that a single card could have left under the lone-card rules"
  pub lone : Lone
  pub possible : lone_steps S (Some fresh_lone) steps ≡ Some lone
  pub same_record : lone.shown ≡ h.shown
  -- "That card's guest is the first card's until the stop and the second's from promotion on", and so is its buffer
  pub first : is_failed h.pair.phase ≡ false → (lays lone.guest ≡ h.pair.p.guest) × (fills lone.buffer ≡ h.pair.p.buffer)
  pub second : is_promoted h.pair.role ≡ true → (lays lone.guest ≡ h.pair.b.guest) × (fills lone.buffer ≡ h.pair.b.buffer)

-- one history of the lone card for each list of events; more events only add steps at its end
pub record OneCard {E : Type 0} (S : Setup) (lays : Guest → Guest) (fills : List Interrupt → List Interrupt) (run : List E → History) : Type 0 where
  pub history : List E → List LoneStep
  pub demand : (evs : List E) → Demand3 S lays fills (run evs) (history evs)
  pub grows : (evs more : List E) → (t : List LoneStep) × (history (evs ++ more) ≡ history evs ++ t)

-- "Two cards driving devices at once is no product of theirs, ever.": of any pair, any bytes, any program
pub record NeverTwo : Type 0 where
  -- what shows is P's (PSTEP) before its stop, or B's (BSTEP) after it, once B is promoted
  pub shows : (code : List ℕ) (s : Pair) (bytes : List ℕ) (e : RecordEntry) → (stepped code s bytes).shown ≡ Some e
      → ((get_or bytes 0 0 ≡ 1) × (is_failed s.phase ≡ false)) ⊎ ((get_or bytes 0 0 ≡ 9) × (is_promoted s.role ≡ true) × (is_failed s.phase ≡ true))
  -- "P halts for good"
  pub for_good : (code : List ℕ) (s : Pair) (bytes : List ℕ) → is_failed s.phase ≡ true → is_failed (stepped code s bytes).pair.phase ≡ true

-- ---- demand 1: "Total, and never trusting."

-- what is made is sound and stays so; what is refused changes nothing
pub record Soundness : Type 0 where
  -- a pair that is made is sound; and every event, whatever its bytes and the program's, leaves a sound pair sound
  pub fresh : (code : List ℕ) (l : ℕ) → answer_number (made (under code l)).answer ≡ 0 → sound_pair (made (under code l)).pair ≡ true
  pub kept : (code : List ℕ) (s : Pair) (bytes : List ℕ) → sound_pair s ≡ true → sound_pair (stepped code s bytes).pair ≡ true
  -- "Every slot not in use is zero at all times in a pair that the monitor makes or accepts."
  pub zero_slots : (code : List ℕ) (l : ℕ) (evs : List (List ℕ)) → laid (seen (pair_after code l evs)) ≡ pair_after code l evs
  pub accepted : (s : Pair) → Sized s → sound_pair s ≡ true → laid (seen s) ≡ s
  -- nothing that an event adds is cut off: the pair that it leaves fits its slots
  pub fits : (code : List ℕ) (s : Pair) (ev : Event) (m : Pair) (o : Option RecordEntry) → sound_pair s ≡ true → malformed ev ≡ false → handle (setup_of code s) (seen s) ev ≡ taken m o → seen (laid m) ≡ m
  -- "A refused event hands the pair back as it came", and shows nothing: any pair, any bytes, any program
  pub refused : (code : List ℕ) (s : Pair) (bytes : List ℕ) → (answer_number (stepped code s bytes).answer ≡ 0 → ⊥) → ((stepped code s bytes).pair ≡ s) × ((stepped code s bytes).shown ≡ None)

-- ---- 01's other claims

-- "At most 58 messages are unacknowledged."
abbrev pub AtMost58 : Type 0
AtMost58 = (code : List ℕ) (l : ℕ) (evs : List (List ℕ)) → unacknowledged (seen (pair_after code l evs)) ≤ 58

-- the bytes of a BSTEP, of a BEND, with any word
abbrev pub IsBStep : List ℕ → Type 0
IsBStep bytes = (w : ℕ) × (read_event bytes ≡ Some (BStep w))

-- the bytes of a BEND
abbrev pub IsBEnd : List ℕ → Type 0
IsBEnd bytes = (w : ℕ) × (read_event bytes ≡ Some (BEnd w))

-- each of them is a BSTEP
abbrev pub AllBSteps : List (List ℕ) → Type 0
AllBSteps [] = Unit
AllBSteps (bytes ∷ evs) = IsBStep bytes × AllBSteps evs

-- all events of a list are taken, one after the other
abbrev pub Takes : List ℕ → Pair → List (List ℕ) → Type 0
Takes code s [] = Unit
Takes code s (bytes ∷ evs) = (answer_number (stepped code s bytes).answer ≡ 0) × Takes code (stepped code s bytes).pair evs

-- "From a fresh pair under one unchanged program, LINK is refused with 6 only if, after at most L BSTEPs, a BEND will be taken", whatever the words
abbrev pub LinkFull : Type 0
LinkFull =
    (code : List ℕ) (l : ℕ) (evs : List (List ℕ)) (bytes : List ℕ) → answer_number (stepped code (pair_after code l evs) bytes).answer ≡ 6
    → (steps : List (List ℕ)) → AllBSteps steps → length steps ≡ l → (turn : List ℕ) → IsBEnd turn
    → (k : ℕ) × (k ≤ l) × Takes code (pair_after code l evs) (take k steps ++ (turn ∷ []))

-- From a fresh pair under one unchanged program no event is answered 8 or 11: what is promised of runs is not empty
abbrev pub NoneInFront : Type 0
NoneInFront =
    (code : List ℕ) (l : ℕ) → answer_number (made (under code l)).answer ≡ 0 → (evs : List (List ℕ)) (bytes : List ℕ)
    → (answer_number (stepped code (pair_after code l evs) bytes).answer ≡ 8 → ⊥) × (answer_number (stepped code (pair_after code l evs) bytes).answer ≡ 11 → ⊥)

-- ---- the same over the model: events as they are read, and the pair without its free slots

-- demand 3 and soundness, and that the pair in memory does the same
pub record Model : Type 0 where
  pub one_card : (S : Setup) → OneCard S (λ g. g) (λ is. is) (run S (fresh_history S))
  pub sound_kept : (code : List ℕ) (s : Pair) (ev : Event) (t : Pair) (o : Option RecordEntry) → step code s ev ≡ taken t o → sound t ≡ true
  -- the pair in memory does what the model does, and answers every event so
  pub faithful : (S : Setup) (evs : List Event) → run_stored S (fresh_stored S) evs ≡ laid_history (run S (fresh_history S) evs)
  pub answers : (S : Setup) (evs : List Event) (ev : Event) → apply S.code (run_stored S (fresh_stored S) evs).pair ev ≡ stored (step S.code (run S (fresh_history S) evs).pair ev)

-- ---- all of it

-- everything that is promised of runs
pub record Promises : Type 0 where
  pub one_card : (code : List ℕ) (l : ℕ) → OneCard (under code l) laid_guest (padded 16 zero_interrupt) (ran code l)
  pub never_two : NeverTwo
  pub soundness : Soundness
  pub at_most58 : AtMost58
  pub link_full : LinkFull
  pub none_in_front : NoneInFront
  pub refusals : (code : List ℕ) (s : Pair) (bytes : List ℕ) → Refusals code s bytes
  pub set_ups : (code : List ℕ) (l : ℕ) → SetUps code l
  pub model : Model
