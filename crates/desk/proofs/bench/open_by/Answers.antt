use mathlib.Core.Path.{sym, ◌∙◌}
use Rattle.desk.proofs.Going.{at_once, opens, opens_not}
use Rattle.desk.proofs.bench.open_by.Goals as goal

pub returns-in-Ok : goal.returns-in-Ok
returns-in-Ok g c = rw (opens _ (sym c.check.ensures ∙ c.in-Ok.is)) c.start_by.ensures

pub returns-in-Err : goal.returns-in-Err
returns-in-Err g c = rw (opens_not _ (sym c.check.ensures ∙ c.in-Err.is)) (at_once _ c.stop.ensures)
