-- An event as it is lent: 8 bytes.
use Rattle.std.specs.Prelude.{Bool, true, false, ◌&&◌, List, ℕ, ◌+◌, ◌*◌, length, get_or, eqb}
use Rattle.slots.specs.Slots.{pick}
use Rattle.rules.specs.declared.OpNo.{OpNo}
use Rattle.rules.specs.declared.Interrupt.{Interrupt}
use Rattle.rules.specs.declared.Pair.{Pair}
use Rattle.rules.specs.declared.Outcome.{Outcome}
use Rattle.rules.specs.declared.Event.{Event}
use Rattle.rules.specs.declared.Event.TheVariants.{PStep, PInt, PTime, PEnd, Link, Ack, Fail, Detect, BStep, BEnd, BInt}
use Rattle.rules.specs.declared.Refusal.TheVariants.{Malformed}
use Rattle.rules.specs.Events.{Verdict, refused}
use Rattle.rules.specs.PairSlots.{apply, outcome}
use Rattle.std.specs.Prelude.{Some, None, Option}

-- the event where the test holds
unfoldable pub heard : Bool → Event → Option Event
heard true ev = Some ev
heard false ev = None

-- "Kinds 1, 3, 9, 10 use the word. Kinds 2 and 11 use status .., operation .., data in the word .. All else is 0"
-- (what kinds 2 and 11 may hold is tested with the event: `malformed`)
unfoldable pub event_of : ℕ → ℕ → OpNo → ℕ → Option Event
event_of k s o w =
    let worded : Bool = eqb s 0 && eqb o.0 0 in
    let bare : Bool = worded && eqb w 0 in
    let i : Interrupt = record { status = s; op = o; word = w } in
    pick (eqb k 1) (heard worded (PStep w))
    (pick (eqb k 2) (Some (PInt i))
    (pick (eqb k 3) (heard worded (PTime w))
    (pick (eqb k 4) (heard bare PEnd)
    (pick (eqb k 5) (heard bare Link)
    (pick (eqb k 6) (heard bare Ack)
    (pick (eqb k 7) (heard bare Fail)
    (pick (eqb k 8) (heard bare Detect)
    (pick (eqb k 9) (heard worded (BStep w))
    (pick (eqb k 10) (heard worded (BEnd w))
    (pick (eqb k 11) (Some (BInt i))
    None))))))))))

-- "8 bytes: kind, status, operation (2), word (4)"; "All stored numbers are little-endian"
unfoldable pub read_event : List ℕ → Option Event
read_event bytes =
    let at : ℕ → ℕ = λ i. get_or bytes i 0 in
    pick (eqb (length bytes) 8) (event_of (at 0) (at 1) (record { 0 = at 2 + 256 * at 3 }) (at 4 + 256 * at 5 + 65536 * at 6 + 16777216 * at 7)) None

-- "malformed event, or not 8 bytes"
unfoldable pub apply_read : List ℕ → Pair → Option Event → Verdict
apply_read code s None = refused Malformed
apply_read code s (Some ev) = apply code s ev

-- from an event's bytes to the outcome: what the code's `step` does
unfoldable pub stepped : List ℕ → Pair → List ℕ → Outcome
stepped code s bytes = outcome s (apply_read code s (read_event bytes))
