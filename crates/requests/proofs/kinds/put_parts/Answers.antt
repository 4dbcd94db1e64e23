use Rattle.text.proofs.Texts.{◌then◌}
use Rattle.requests.specs.Lines.{parts_fields}
use Rattle.requests.proofs.kinds.put_parts.Goals as goal

pub returns : goal.returns
unfolding parts_fields
returns c = rw (← c.limit.ensures, ← c.from.ensures, ← c.program.ensures, ← c.events.ensures) (c.put_number_field.ensures then c.put_hex_field.ensures then c.put_hex_field-2.ensures)
