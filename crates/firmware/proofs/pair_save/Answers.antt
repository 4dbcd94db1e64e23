use Rattle.rules.specs.PairSlots.{answer_number}
use Rattle.firmware.proofs.Outcomes.{save-refused, save-taken}
use Rattle.firmware.proofs.pair_save.Goals as goal

pub returns-in-Ok : goal.returns-in-Ok
returns-in-Ok c = save-taken _ _ c.load-loaded.ensures c.in-Ok.is c.fit.ensures c.number.ensures

pub returns-in-Err : goal.returns-in-Err
unfolding answer_number
returns-in-Err c = save-refused _ _ c.load-loaded.ensures c.in-Err.is c.from.ensures
