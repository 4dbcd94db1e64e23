use Rattle.rules.specs.PairSlots.{answer_number}
use Rattle.firmware.proofs.Outcomes.{step-refused, step-taken}
use Rattle.firmware.proofs.pair_step.Goals as goal

pub returns-in-Ok : goal.returns-in-Ok
returns-in-Ok c = step-taken _ _ _ _ c.apply-outcome.ensures c.in-Ok.is c.fit.ensures (rw c.entry_of.ensures at c.put_entry.ensures)

pub returns-in-Err : goal.returns-in-Err
unfolding answer_number
returns-in-Err c = step-refused _ _ _ _ c.apply-outcome.ensures c.in-Err.is c.from.ensures
