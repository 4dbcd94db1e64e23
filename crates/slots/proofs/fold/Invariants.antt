use Rattle.std.proofs.Common.{◌≡◌, drop}
use Rattle.slots.specs.Slots.{folded, Steps}
use Rattle.slots.proofs.fold.Given as goal

abbrev pub invariant-loop-x : goal.invariant-loop-x
invariant-loop-x g l = (f : _) → Steps (goal.F-post g l.step) f → folded f l.fn.start l.x-items ≡ folded f l.all (drop l.x-index l.x-items)
