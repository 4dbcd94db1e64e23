use Rattle.text.proofs.Texts.{◌then◌}
use Rattle.requests.specs.Lines.{applied_line}
use Rattle.requests.proofs.kinds.applied.Goals as goal

pub returns : goal.returns
unfolding applied_line
returns c = rw (← c.step-outcome.ensures) (c.put_front.ensures then c.put_shown.ensures then c.put_saved.ensures then c.put_line_end.ensures)
