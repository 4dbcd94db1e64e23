-- The boundary of an epoch, in its parts.
use Rattle.std.specs.Prelude.{Bool, false, not, ◌&&◌, List, [], ◌∷◌, ◌++◌, map, ℕ, leb, eqb}
use Rattle.slots.specs.Slots.{pick, keep, count, folded}
use Rattle.rules.specs.declared.OpNo.{OpNo}
use Rattle.rules.specs.declared.Interrupt.{Interrupt}
use Rattle.rules.specs.declared.Guest.{Guest}
use Rattle.rules.specs.Guest.{with_table, with_queue, with_timer, with_counts, listed}
use Rattle.rules.specs.Instruction.{is_timer}

-- another operation than n
abbrev pub other_op : OpNo → OpNo → Bool
other_op n o = not (eqb o.0 n.0)

-- "each leaving the table and joining the queue"
unfoldable pub told : Guest → Interrupt → Guest
told g i = with_queue (with_table g (keep (other_op i.op) g.table)) (g.queue ++ (i ∷ []))

-- "(one whose number isn't in the table is dropped)"
unfoldable pub deliver : Guest → Interrupt → Guest
deliver g i = pick (listed i.op g.table) (told g i) g

-- "buffered device interrupts in order of arrival"
abbrev pub delivers : Guest → List Interrupt → Guest
delivers g is = folded deliver g is

-- "an uncertain interrupt (status 2, data 0)"
abbrev pub uncertain : OpNo → Interrupt
uncertain n = record { status = 2; op = n; word = 0 }

-- "an uncertain interrupt .. for each operation still in the table, ascending (P8)"
unfoldable pub tell_uncertain : Guest → Guest
tell_uncertain g = delivers g (map uncertain g.table)

-- "(status 3, operation 0, data clock)"
abbrev pub timer_interrupt : ℕ → Interrupt
timer_interrupt c = record { status = 3; op = record { 0 = 0 }; word = c }

-- "if armed and deadline ≤ clock, ..; .. wait while a timer interrupt is untaken"
unfoldable pub due : ℕ → Guest → Bool
due c g = g.armed && leb g.deadline c && eqb (count is_timer g.queue) 0

-- "disarm, set the deadline to 0 and queue"
unfoldable pub rings : ℕ → Guest → Guest
rings c g = with_queue (with_timer g false 0) (g.queue ++ (timer_interrupt c ∷ []))

-- "these three acts, and nothing else, wait"
unfoldable pub timer : ℕ → Guest → Guest
timer c g = pick (due c g) (rings c g) g

-- "Both epoch counts become 0"
unfoldable pub restart : Guest → Guest
restart g = with_counts g 0 0

-- "Boundary(clock)" with the interrupts `is`
unfoldable pub boundary : List Interrupt → ℕ → Guest → Guest
boundary is c g = restart (timer c (delivers g is))

-- the same "in a failover epoch"
unfoldable pub failover : List Interrupt → ℕ → Guest → Guest
failover is c g = restart (timer c (tell_uncertain (delivers g is)))
