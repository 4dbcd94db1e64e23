use Rattle.text.specs.Lines.{entry_text}
use Rattle.text.proofs.Texts.{◌then◌}
use Rattle.text.proofs.Text.put_entry.Goals as goal

pub returns : goal.returns
unfolding entry_text
returns c = rw (← c.from.ensures, ← c.from-2.ensures, ← c.from-3.ensures) (c.put_number.ensures then c.put_number_field.ensures then c.put_number_field-2.ensures)
