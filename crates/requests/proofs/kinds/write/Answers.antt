use Rattle.requests.specs.Lines.{write_line}
use Rattle.requests.proofs.kinds.write.Goals as goal

pub returns-clause-spelled : goal.returns-clause-spelled
unfolding write_line
returns-clause-spelled c = rw (← c.write-answer.ensures.answers, ← c.write-answer.ensures.leaves) c.with_bytes.ensures
