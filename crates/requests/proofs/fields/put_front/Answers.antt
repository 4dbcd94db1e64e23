use Rattle.text.proofs.Texts.{◌then◌}
use Rattle.requests.specs.Lines.{front}
use Rattle.requests.proofs.fields.put_front.Goals as goal

pub returns : goal.returns
unfolding front
returns c = rw (← c.from.ensures, ← c.number.ensures, ← c.from-2.ensures) (c.put_number.ensures then c.put_number_field.ensures)
