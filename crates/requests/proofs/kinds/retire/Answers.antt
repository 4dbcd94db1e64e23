use Rattle.requests.specs.Lines.{retire_line}
use Rattle.requests.proofs.kinds.retire.Goals as goal

pub returns-clause-spelled : goal.returns-clause-spelled
unfolding retire_line
returns-clause-spelled c = rw (← c.retire-answer.ensures.answer, ← c.retire-answer.ensures.leaves) c.with_bytes.ensures
