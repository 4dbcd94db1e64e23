use Rattle.desk.proofs.Going.{at_once, starts, starts_not}
use Rattle.desk.proofs.bench.start_by.Goals as goal

pub returns-in-Ok : goal.returns-in-Ok
returns-in-Ok g c =
    rw (starts _ (rw (c.program.ensures, c.limit.ensures) at c.set_up-made.ensures) c.in-Ok.is) (c.requires.takes _ _ _ _ _ c.take.ensures)

pub returns : goal.returns
returns g c = rw (starts_not _ (rw (c.program.ensures, c.limit.ensures) at c.set_up-made.ensures) c.in-Err.is) (at_once _ c.stop.ensures)
