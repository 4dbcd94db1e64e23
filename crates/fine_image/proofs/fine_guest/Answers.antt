use Rattle.layout.proofs.Fine.{guest-fine}
use Rattle.fine_image.proofs.fine_guest.Goals as goal

pub returns : goal.returns
returns c = rw (guest-fine, ← c.fine.ensures, ← c.fine_array.ensures)
