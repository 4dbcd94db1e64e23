use Rattle.image.specs.Stores.{zeros}
use Rattle.requests.specs.Lines.{saved_field}
use Rattle.requests.proofs.fields.put_saved.Goals as goal

pub returns : goal.returns
unfolding saved_field zeros
returns c = rw (← c.save.ensures.leaves) c.put_hex_field.ensures
