use Rattle.text.specs.Lines.{number_field}
use Rattle.text.proofs.Texts.{◌then◌}
use Rattle.text.proofs.Text.put_number_field.Goals as goal

pub returns : goal.returns
unfolding number_field
returns c = c.put_byte.ensures then c.put_number.ensures
