use Rattle.std.proofs.Common.{◌≡◌, drop}
use Rattle.rules.specs.GuestSound.{ascending}
use Rattle.sound.proofs.rising.Given as goal

abbrev pub invariant-loop-x : goal.invariant-loop-x
invariant-loop-x l = ascending 0 l.last.0 l.x-items ≡ ascending l.below.0 l.last.0 (drop l.x-index l.x-items)
