use mathlib.Core.Bool.{not}
use mathlib.Core.Path.{ap}
use Rattle.image.proofs.Stores.{loaded-length, loaded-taken, loaded-unsound}
use Rattle.image.proofs.load.Goals as goal

pub returns-then-image-ne-IMAGE_LENGTH : goal.returns-then-image-ne-IMAGE_LENGTH
returns-then-image-ne-IMAGE_LENGTH c = rw c.no_pair.ensures (loaded-length c.args.image.now c.if-image-ne-IMAGE_LENGTH.true)

pub returns-then-not-fine-sound : goal.returns-then-not-fine-sound
returns-then-not-fine-sound c = rw c.no_pair-then-not-fine-sound.ensures (loaded-unsound c.args.image.now c.if-image-ne-IMAGE_LENGTH.false (ap not (rw (c.sound.ensures.is, c.get-pair.ensures, c.fine.ensures) at c.if-not-fine-sound.true)))

pub returns : goal.returns
returns c = rw (c.taken.ensures, c.get-pair.ensures) (loaded-taken c.args.image.now c.if-image-ne-IMAGE_LENGTH.false (ap not (rw (c.sound.ensures.is, c.get-pair.ensures, c.fine.ensures) at c.if-not-fine-sound.false)))
