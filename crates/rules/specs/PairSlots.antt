-- The pair in memory: arrays that are filled from the front. The model is the same record with the free slots left out.
use Rattle.std.specs.Prelude.{Bool, false, not, ◌&&◌, List, [], ℕ, eqb}
use Rattle.slots.specs.Slots.{entries, padded, tight}
use Rattle.rules.specs.declared.Message.{Message}
use Rattle.rules.specs.declared.Card.{Card}
use Rattle.rules.specs.declared.Pair.{Pair}
use Rattle.rules.specs.declared.Event.{Event}
use Rattle.rules.specs.declared.Phase.TheVariants.{Running}
use Rattle.rules.specs.declared.Role.TheVariants.{Following}
use Rattle.rules.specs.declared.Outcome.{Outcome}
use Rattle.rules.specs.Guest.{fresh}
use Rattle.rules.specs.GuestSlots.{used_interrupt, zero_op, zero_interrupt, is_zero_interrupt, seen_guest, laid_guest, tight_guest}
use Rattle.rules.specs.Program.{Setup}
use Rattle.rules.specs.Pair.{setup_of}
use Rattle.rules.specs.Sound.{sound}
use Rattle.rules.specs.Events.{Verdict, refused, taken, number, in_front, handle, set_up}
use Rattle.rules.specs.Answer.{Answer}
use Rattle.std.specs.Prelude.{None, Ok, Err}

-- a slot is in use when it is not zero; a message's kind tells
abbrev pub used_message : Message → Bool
used_message m = not (eqb m.kind 0)

-- the free slot of the link and of the inbox, and whether one is zero
abbrev pub zero_message : Message
zero_message = record { kind = 0; status = 0; epoch = record { 0 = 0 }; op = zero_op; word = 0 }

abbrev pub is_zero_message : Message → Bool
is_zero_message m = eqb m.kind 0 && eqb m.status 0 && eqb m.epoch.0 0 && eqb m.op.0 0 && eqb m.word 0

-- the used slots
unfoldable pub seen_card : Card → Card
seen_card c = record { guest = seen_guest c.guest; epoch = c.epoch; buffer = entries used_interrupt c.buffer }

unfoldable pub seen : Pair → Pair
seen s = record { p = seen_card s.p; phase = s.phase; b = seen_card s.b; role = s.role; detected = s.detected; limit = s.limit; count = s.count; link = entries used_message s.link; acks = s.acks; inbox = entries used_message s.inbox }

-- laid out, and then zeros: buffers 16, link 58, inbox 128
unfoldable pub laid_card : Card → Card
laid_card c = record { guest = laid_guest c.guest; epoch = c.epoch; buffer = padded 16 zero_interrupt c.buffer }

unfoldable pub laid : Pair → Pair
laid s = record { p = laid_card s.p; phase = s.phase; b = laid_card s.b; role = s.role; detected = s.detected; limit = s.limit; count = s.count; link = padded 58 zero_message s.link; acks = s.acks; inbox = padded 128 zero_message s.inbox }

-- "slots filled from the front, the rest zero"
unfoldable pub tight_card : Card → Bool
tight_card c = tight_guest c.guest && tight used_interrupt is_zero_interrupt c.buffer

unfoldable pub tight_pair : Pair → Bool
tight_pair s = tight_card s.p && tight_card s.b && tight used_message is_zero_message s.link && tight used_message is_zero_message s.inbox

-- a pair in memory is sound
unfoldable pub sound_pair : Pair → Bool
sound_pair s = tight_pair s && sound (seen s)

-- what an event leaves, laid out
unfoldable pub stored : Verdict → Verdict
stored (refused why) = refused why
stored (taken s o) = taken (laid s) o

-- one event on the pair in memory
unfoldable pub apply : List ℕ → Pair → Event → Verdict
apply code s ev = in_front (sound_pair s) code s ev (stored (handle (setup_of code s) (seen s) ev))

-- what comes back: a refused event leaves the very pair that came, and no entry
unfoldable pub outcome : Pair → Verdict → Outcome
outcome s (refused why) = record { answer = Err why; pair = s; shown = None }
outcome s (taken t o) = record { answer = Ok tt; pair = t; shown = o }

-- "the refusal or 0"
unfoldable pub answer_number : Answer → ℕ
answer_number (Ok tt) = 0
answer_number (Err why) = number why

-- "Where nothing is made, zeros .. stand in its place"
unfoldable pub zero_pair : Pair
zero_pair =
    laid
    (record {
      p = record { guest = fresh; epoch = record { 0 = 0 }; buffer = [] };
      phase = Running;
      b = record { guest = fresh; epoch = record { 0 = 0 }; buffer = [] };
      role = Following;
      detected = false;
      limit = 0;
      count = 0;
      link = [];
      acks = 0;
      inbox = [];
    })

-- set-up in memory
unfoldable pub made : Setup → Outcome
made S = outcome zero_pair (stored (set_up S))
