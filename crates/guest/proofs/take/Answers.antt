use Rattle.std.proofs.Common.{◌≡◌, List, [], ◌∷◌, get_or, refl, rules}
use Rattle.rules.specs.GuestSlots.{zero_interrupt}
use Rattle.rules.specs.Instruction.{oldest, take}
use Rattle.rules.specs.declared.Interrupt.{Interrupt}
use Rattle.guest.specs.InSlots.{take_in}
use Rattle.guest.proofs.take.Goals as goal

-- "all 0 if the queue is empty"
oldest-first : (q : List Interrupt) → get_or q 0 zero_interrupt ≡ oldest q
unfolding oldest
oldest-first [] = refl
oldest-first (i ∷ q) = refl

pub returns : goal.returns
unfolding take_in take
returns c = rw (← oldest-first) (search rules)
