use Rattle.std.proofs.Common.{◌≡◌, Bool, drop}
use Rattle.slots.specs.Slots.{any, Computes}
use Rattle.slots.proofs.any.Given as goal

abbrev pub invariant-loop-x : goal.invariant-loop-x
invariant-loop-x g l = (p : _ → Bool) → Computes (goal.F-post g l.test) p → any p l.x-items ≡ any p (drop l.x-index l.x-items)
