use mathlib.Core.Path.{sym}
use Rattle.reader.proofs.Events.{stays, moves}
use Rattle.reader.proofs.place_after.Goals as goal

pub returns-then-count-at : goal.returns-then-count-at
returns-then-count-at c = sym (stays _ _ (rw c.count.ensures at c.if-count-at.true))

pub returns : goal.returns
returns c = sym (moves _ _ (rw c.count.ensures at c.if-count-at.false))
