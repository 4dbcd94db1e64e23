use mathlib.Core.Path.{refl}
use Rattle.desk.proofs.Lines.{stands}
use Rattle.bench.proofs.main.Goals as goal

pub write-requires : goal.write-requires
write-requires c = (stands c.run-m.ensures refl).0
