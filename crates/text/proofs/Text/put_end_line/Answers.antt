use Rattle.text.specs.Lines.{end_line}
use Rattle.text.proofs.Texts.{◌then◌}
use Rattle.text.proofs.Text.put_end_line.Goals as goal

pub returns : goal.returns
unfolding end_line
returns c = rw (← c.from.ensures) (c.put_bytes.ensures then c.put_number_field.ensures then c.put_number_field-2.ensures then c.put_line_end.ensures)
