-- The parts of the boundary on the guest's arrays, for any arrays whatever: what the code does. On a guest that fits its slots each
-- is the rule of its name, laid out (proofs/Laid.antt).
-- an interrupt leaves the table and joins the queue, or is dropped
use Rattle.std.specs.Prelude.{false, List, map, ℕ}
use Rattle.rules.specs.Boundary.{due, other_op, restart, timer_interrupt, uncertain}
use Rattle.rules.specs.Guest.{listed, with_queue, with_table, with_timer}
use Rattle.rules.specs.GuestSlots.{seen_guest, used_interrupt, used_op, zero_op}
use Rattle.rules.specs.declared.Guest.{Guest}
use Rattle.rules.specs.declared.Interrupt.{Interrupt}
use Rattle.slots.specs.Slots.{entries, folded, keep, padded, pick, pushed}

unfoldable pub deliver_in : Guest → Interrupt → Guest
deliver_in g i =
    pick (listed i.op (entries used_op g.table))
    (with_queue (with_table g (padded 16 zero_op (keep (other_op i.op) (entries used_op g.table)))) (pushed used_interrupt g.queue i))
    g

abbrev pub delivers_in : Guest → List Interrupt → Guest
delivers_in g is = folded deliver_in g is

-- an uncertain interrupt for each operation in the table (P8)
unfoldable pub tell_uncertain_in : Guest → Guest
tell_uncertain_in g = delivers_in g (map uncertain (entries used_op g.table))

-- the timer's three acts
unfoldable pub timer_in : ℕ → Guest → Guest
timer_in c g = pick (due c (seen_guest g)) (with_queue (with_timer g false 0) (pushed used_interrupt g.queue (timer_interrupt c))) g

-- the boundary's end: the timer, and "both epoch counts become 0"
unfoldable pub close_in : ℕ → Guest → Guest
close_in c g = restart (timer_in c g)

unfoldable pub boundary_in : List Interrupt → ℕ → Guest → Guest
boundary_in is c g = close_in c (delivers_in g is)
