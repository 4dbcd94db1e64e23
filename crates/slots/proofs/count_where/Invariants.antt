use Rattle.std.proofs.Common.{◌≡◌, ◌+◌, ◌≤◌, Bool, drop}
use Rattle.slots.specs.Slots.{count, Computes}
use Rattle.slots.proofs.count_where.Given as goal

abbrev pub invariant-loop-x : goal.invariant-loop-x
invariant-loop-x g l =
    (l.passed ≤ l.x-index)
    × ((p : _ → Bool) → Computes (goal.F-post g l.test) p → count p l.x-items ≡ l.passed + count p (drop l.x-index l.x-items))
