-- Where the events have ended before the place the part is empty; else it is whole.
use mathlib.Core.Path.{◌≡◌, sym}
use Prim.Native.Nat.{◌+◌, ◌*◌, ◌-◌, ◌≤◌}
use native.Mathlib.Omega.{arith}
use Rattle.reader.specs.Events.{event_length, event_count, event_at}
use Rattle.reader.proofs.Events.{no_event}
use Rattle.reader.proofs.event_at.Goals as goal

pub returns-then-events-at : goal.returns-then-events-at
returns-then-events-at c =
    let few : event_count c.args.file.now ≤ c.args.at = omega (arith, rw c.events-events.ensures at c.if-events-at.true) in
    sym (no_event _ _ few)

pub returns : goal.returns
unfolding event_at
returns c =
    let at = c.args.at in
    let wide : at * event_length + event_length - at * event_length ≡ event_length = omega arith in
    rw (wide, c.events-events.ensures)
