use Rattle.std.proofs.Common.{◌≡◌, true, length}
use Rattle.rules.specs.Guest.{ops_of}
use Rattle.rules.specs.GuestSlots.{used_interrupt}
use Rattle.rules.specs.Sound.{once}
use Rattle.slots.specs.Slots.{entries, every}
use Rattle.pair.proofs.once.Given as goal

-- what is left is used, and no operation stands twice in it if none does in the whole
abbrev pub invariant-loop-i : goal.invariant-loop-i
invariant-loop-i l = (every used_interrupt l.rest ≡ true) × (once (ops_of (entries used_interrupt l.buffer)) ≡ once (ops_of l.rest))

abbrev pub decreases-loop-i : goal.decreases-loop-i
decreases-loop-i l = length l.rest
