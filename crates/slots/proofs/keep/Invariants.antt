use Rattle.std.proofs.Common.{◌≤◌, Bool, length, drop}
use Rattle.slots.specs.Slots.{keep, Computes}
use Rattle.slots.proofs.Filling.{Filling}
use Rattle.slots.proofs.keep.Given as goal

-- of whatever test the closure computes: what is kept so far, and what is left of it
abbrev pub invariant-loop-x : goal.invariant-loop-x
invariant-loop-x g l =
    (l.n ≤ l.x-index) × (length l.x-items ≤ g.row.N)
    × ((p : _ → Bool) → Computes (goal.F-post g l.test) p → Filling g.row.N g.T.Slot.zero (keep p l.x-items) (keep p (drop l.x-index l.x-items)) l.kept l.n)
