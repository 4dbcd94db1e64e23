use mathlib.Core.Path.{refl}
use Rattle.rules.specs.Messages.{interrupt_of}
use Rattle.message.proofs.interrupt_of.Goals as goal

pub returns : goal.returns
unfolding interrupt_of
returns c = refl
