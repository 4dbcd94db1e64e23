use Rattle.std.proofs.Common.{rules}
use Rattle.desk.proofs.Going.{going_ends, going_more, going_stops}
use Rattle.desk.proofs.bench.take.Goals as goal

pub returns-in-Err : goal.returns-in-Err
returns-in-Err c = going_stops _ _ c.loop-n.invariant c.turn-outcome.result (search rules) c.turn-outcome.ensures c.in-Err.is c.stop.ensures

pub returns : goal.returns
returns c = going_ends _ _ c.loop-n.invariant (search rules) c.stop-2.ensures

pub loop-n-preserved : goal.loop-n-preserved
loop-n-preserved c = going_more _ _ c.loop-n.invariant c.turn-outcome.result (search rules) c.turn-outcome.ensures c.in_default.is c.show.ensures.spelled c.show.ensures.short
