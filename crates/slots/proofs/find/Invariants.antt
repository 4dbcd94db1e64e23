use Rattle.std.proofs.Common.{◌≡◌, Bool, drop, find}
use Rattle.slots.specs.Slots.{Computes}
use Rattle.slots.proofs.find.Given as goal

abbrev pub invariant-loop-x : goal.invariant-loop-x
invariant-loop-x g l = (p : _ → Bool) → Computes (goal.F-post g l.test) p → find p l.x-items ≡ find p (drop l.x-index l.x-items)
