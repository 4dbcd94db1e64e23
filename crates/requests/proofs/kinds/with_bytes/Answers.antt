use Rattle.text.proofs.Texts.{◌then◌}
use Rattle.requests.specs.Lines.{bytes_line}
use Rattle.requests.proofs.kinds.with_bytes.Goals as goal

pub returns : goal.returns
unfolding bytes_line
returns c = c.put_front.ensures then c.put_hex_field.ensures then c.put_line_end.ensures
