-- A stretch of events: from a place of a run file on, until one is refused or shows the devices something.
use Rattle.std.specs.Prelude.{Bool, true, false, List, ℕ, zero, suc}
use Rattle.reader.specs.Events.{event_at, place_after}
use Rattle.resident.specs.declared.Applied.{Applied}
use Rattle.rules.specs.Bytes.{stepped}
use Rattle.rules.specs.declared.Pair.{Pair}
use Rattle.slots.specs.Slots.{pick}
use Rattle.walker.specs.declared.Stretch.{Stretch}
use Rattle.rules.specs.declared.RecordEntry.{RecordEntry}
use Rattle.rules.specs.Answer.{Answer}
use Rattle.std.specs.Prelude.{Some, None, Option, Ok, Err}

-- an event was taken, and showed the devices nothing
unfoldable pub quiet : Answer → Option RecordEntry → Bool
quiet (Ok tt) None = true
quiet (Ok tt) (Some e) = false
quiet (Err why) shown = false

-- what stands for the last event where there was none: as if it was quiet
abbrev pub none_yet : Applied
none_yet = record { answer = Ok tt; shown = None }

-- the stretch of no events, at a place and with a pair
abbrev pub from : ℕ → Pair → Stretch
from n s = record { at = n; pair = s; last = none_yet }

-- one event more: the reader's next, applied to the pair
abbrev pub one_more : List ℕ → List ℕ → Stretch → Stretch
one_more file program z =
    let o = stepped program z.pair (event_at file z.at) in
    record { at = place_after file z.at; pair = o.pair; last = record { answer = o.answer; shown = o.shown } }

-- as long as they are quiet, so many events more
unfoldable pub until_shown : List ℕ → List ℕ → Stretch → ℕ → Stretch
until_shown file program z zero = z
until_shown file program z (suc left) = pick (quiet z.last.answer z.last.shown) (until_shown file program (one_more file program z) left) z
