use Rattle.std.proofs.Common.{◌≤◌, Bool, length}
use Rattle.slots.specs.Slots.{without, Computes}
use Rattle.slots.proofs.Filling.{Filling}
use Rattle.slots.proofs.Looking.{left}
use Rattle.slots.proofs.without.Given as goal

-- of whatever test the closure computes: what is kept so far, and what is left of it
abbrev pub invariant-loop-x : goal.invariant-loop-x
invariant-loop-x g l =
    (l.n ≤ l.x-index) × (length l.x-items ≤ g.row.N)
    × ((p : _ → Bool) → Computes (goal.F-post g l.test) p → Filling g.row.N g.T.Slot.zero (without p l.x-items) (left p l.x-items l.x-index l.found) l.left l.n)
