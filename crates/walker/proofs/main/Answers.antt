use mathlib.Core.Path.{refl}
use Rattle.desk.proofs.Lines.{stands}
use Rattle.walker.proofs.main.Goals as goal

pub write-requires : goal.write-requires
write-requires c = (stands c.run_by-m.ensures refl).0
