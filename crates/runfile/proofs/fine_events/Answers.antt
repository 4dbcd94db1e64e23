use mathlib.Core.Path.{refl}
use Rattle.runfile.specs.RunFile.{fine_events}
use Rattle.runfile.proofs.fine_events.Goals as goal

pub returns : goal.returns
unfolding fine_events
returns c = refl
