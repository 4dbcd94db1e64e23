use Rattle.desk.proofs.Lines.{ends}
use Rattle.desk.proofs.bench.stop.Goals as goal

pub returns : goal.returns
returns c = rw (ends _ _, ← c.number.ensures) c.put_end_line.ensures
