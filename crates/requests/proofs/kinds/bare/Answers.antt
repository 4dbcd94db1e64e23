use Rattle.text.proofs.Texts.{◌then◌}
use Rattle.requests.specs.Lines.{bare_line}
use Rattle.requests.proofs.kinds.bare.Goals as goal

pub returns : goal.returns
unfolding bare_line
returns c = c.put_front.ensures then c.put_line_end.ensures
