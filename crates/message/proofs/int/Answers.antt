use mathlib.Core.Path.{refl}
use Rattle.rules.specs.Messages.{int}
use Rattle.message.proofs.int.Goals as goal

pub returns : goal.returns
unfolding int
returns c = refl
