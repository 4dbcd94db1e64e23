use Rattle.std.proofs.Common.{◌≡◌, ◌-◌, true}
use Rattle.walker.specs.Stretches.{from, quiet, until_shown}
use Rattle.walker.proofs.walk.Given as goal

-- The stretch so far is quiet; it and the events that are left come to what the whole comes to; the reader's file stays.
abbrev pub invariant-loop : goal.invariant-loop
invariant-loop l =
    (l.reader.file.now ≡ l.file)
    × (quiet l.last.answer l.last.shown ≡ true)
    × (until_shown l.file l.program (from l.at l.fn.pair) l.events ≡ until_shown l.file l.program (record { at = l.reader.at; pair = l.resident; last = l.last }) (l.events - l.counter))
