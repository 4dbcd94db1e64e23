-- The guest in memory: table and queue are arrays that are filled from the front. The model is the same record with the free slots left out.
use Rattle.std.specs.Prelude.{Bool, not, ◌&&◌, ℕ, eqb}
use Rattle.slots.specs.Slots.{entries, padded, tight}
use Rattle.rules.specs.declared.OpNo.{OpNo}
use Rattle.rules.specs.declared.Interrupt.{Interrupt}
use Rattle.rules.specs.declared.Guest.{Guest}
use Rattle.rules.specs.declared.Ran.{Ran}
use Rattle.rules.specs.Guest.{with_table, with_queue}
use Rattle.rules.specs.GuestSound.{sound_guest}

-- a slot is in use when it is not zero; an interrupt's status tells
abbrev pub used_op : OpNo → Bool
used_op o = not (eqb o.0 0)

-- an interrupt's status tells
abbrev pub used_interrupt : Interrupt → Bool
used_interrupt i = not (eqb i.status 0)

-- the free slot of a table, and of a queue or buffer
abbrev pub zero_op : OpNo
zero_op = record { 0 = 0 }

abbrev pub zero_interrupt : Interrupt
zero_interrupt = record { status = 0; op = zero_op; word = 0 }

-- a slot is free and zero
abbrev pub is_zero_op : OpNo → Bool
is_zero_op o = eqb o.0 0

abbrev pub is_zero_interrupt : Interrupt → Bool
is_zero_interrupt i = eqb i.status 0 && eqb i.op.0 0 && eqb i.word 0

-- the used slots
unfoldable pub seen_guest : Guest → Guest
seen_guest g = with_queue (with_table g (entries used_op g.table)) (entries used_interrupt g.queue)

-- laid out, and then zeros: "table of outstanding operations (16 slots); interrupt queue (17 slots)"
unfoldable pub laid_guest : Guest → Guest
laid_guest g = with_queue (with_table g (padded 16 zero_op g.table)) (padded 17 zero_interrupt g.queue)

-- what an instruction leaves, laid out
unfoldable pub laid_ran : Ran → Ran
laid_ran r = record { guest = laid_guest r.guest; shown = r.shown }

-- "slots filled from the front, the rest zero"
unfoldable pub tight_guest : Guest → Bool
tight_guest g = tight used_op is_zero_op g.table && tight used_interrupt is_zero_interrupt g.queue

-- a guest in memory is sound under N and L
unfoldable pub sound_in_memory : ℕ → ℕ → Guest → Bool
sound_in_memory n l g = tight_guest g && sound_guest n l (seen_guest g)
