use Rattle.std.proofs.Common.{◌≡◌, Bool, drop}
use Rattle.slots.specs.Slots.{every, Computes}
use Rattle.slots.proofs.every.Given as goal

abbrev pub invariant-loop-x : goal.invariant-loop-x
invariant-loop-x g l = (p : _ → Bool) → Computes (goal.F-post g l.test) p → every p l.x-items ≡ every p (drop l.x-index l.x-items)
