use Rattle.text.specs.Lines.{hex_field}
use Rattle.text.proofs.Texts.{◌then◌}
use Rattle.text.proofs.Text.put_hex_field.Goals as goal

pub returns : goal.returns
unfolding hex_field
returns c = c.put_byte.ensures then c.put_hex.ensures
