use mathlib.Core.Path.{refl}
use Rattle.runfile.specs.RunFile.{fine_program}
use Rattle.runfile.proofs.fine_program.Goals as goal

pub returns : goal.returns
unfolding fine_program
returns c = refl
