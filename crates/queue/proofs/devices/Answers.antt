use native.Mathlib.Omega.{arith}
use Rattle.rules.specs.GuestSlots.{used_interrupt}
use Rattle.rules.specs.Instruction.{is_timer}
use Rattle.slots.proofs.Lists.{count_split, keep-length}
use Rattle.slots.specs.Slots.{entries}
use Rattle.queue.proofs.devices.Goals as goal

pub overflow_sub-result : goal.overflow_sub-result
overflow_sub-result c = omega (arith, c.timers-timers.ensures.is, c.count-all.ensures.is, keep-length is_timer (entries used_interrupt c.args.queue.now))

pub returns-clause-is : goal.returns-clause-is
returns-clause-is c = omega (arith, c.timers-timers.ensures.is, c.count-all.ensures.is, count_split is_timer (entries used_interrupt c.args.queue.now))
