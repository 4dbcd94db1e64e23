use mathlib.Core.Bool.{not}
use mathlib.Core.Path.{ap}
use Rattle.image.proofs.Stores.{saved, saved_unsound}
use Rattle.image.proofs.save.Goals as goal

pub returns-then-not-sound : goal.returns-then-not-sound
returns-then-not-sound c = saved_unsound _ _ (ap not (rw c.sound.ensures.is at c.if-not-sound.true))

pub returns : goal.returns
returns c = saved _ _ (ap not (rw c.sound.ensures.is at c.if-not-sound.false)) c.fit.ensures
