use Rattle.text.proofs.Texts.{◌then◌}
use Rattle.requests.specs.Lines.{shown_field}
use Rattle.requests.proofs.fields.put_shown.Goals as goal

pub returns-in-Some : goal.returns-in-Some
unfolding shown_field
returns-in-Some c = rw c.in-Some.is (c.put_byte.ensures then c.put_entry.ensures)

pub returns-in-None : goal.returns-in-None
unfolding shown_field
returns-in-None c = rw c.in-None.is (c.put_byte.ensures then c.put_entry-in-None.ensures)
