use Rattle.requests.proofs.Lines.{applies, applies_not}
use Rattle.requests.proofs.kinds.apply.Goals as goal

pub returns-in-Ok : goal.returns-in-Ok
returns-in-Ok c = rw (applies _ c.load-loaded.ensures c.in-Ok.is _ _) c.applied.ensures

pub returns-in-Err : goal.returns-in-Err
returns-in-Err c = rw (applies_not _ c.load-loaded.ensures c.in-Err.is _ _) c.bare.ensures
