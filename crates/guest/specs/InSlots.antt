-- One instruction on the guest's arrays, for any arrays whatever: what the code does. On a guest that fits its slots it is the rule of
-- its name, laid out (proofs/Laid.antt).
-- the guest with another pc and count of instructions
use Rattle.std.specs.Prelude.{ℕ, List}
use Rattle.rules.specs.Guest.{onward, with_queue, with_reg, with_table}
use Rattle.rules.specs.GuestSlots.{seen_guest, used_interrupt, used_op, zero_interrupt}
use Rattle.rules.specs.Instruction.{cannot_start, complete, moved, next, next_op, perform, quiet, starts, take}
use Rattle.rules.specs.declared.Guest.{Guest}
use Rattle.rules.specs.declared.Instr.{Instr}
use Rattle.rules.specs.declared.Instr.TheVariants.{Add, Div, Jz, Load, Nop, SetTo, Start, Store, Sub, Take, Time, Timer}
use Rattle.rules.specs.declared.OpNo.{OpNo}
use Rattle.rules.specs.declared.Ran.{Ran}
use Rattle.slots.specs.Slots.{entries, padded, pick, pushed}

abbrev pub with_place : Guest → ℕ → ℕ → Guest
with_place g p d = record { pc = p; done = d; times = g.times; armed = g.armed; deadline = g.deadline; regs = g.regs; mem = g.mem; last = g.last; table = g.table; queue = g.queue }

abbrev pub in_place : Ran → ℕ → ℕ → Ran
in_place r p d = record { guest = with_place r.guest p d; shown = r.shown }

-- the queue's used slots, and the queue laid out
abbrev pub seen_queue : Guest → Guest
seen_queue g = with_queue g (entries used_interrupt g.queue)

abbrev pub laid_queue : Guest → Guest
laid_queue g = with_queue g (padded 17 zero_interrupt g.queue)

-- TAKE lays the rest of the queue out anew
unfoldable pub take_in : Guest → ℕ → ℕ → ℕ → Guest
take_in g x y z = laid_queue (take (seen_queue g) x y z)

abbrev pub in_table : List OpNo → Ran → Ran
in_table t r = record { guest = with_table r.guest t; shown = r.shown }

-- START stores its number in the table's first free slot
unfoldable pub start_in : Guest → ℕ → ℕ → ℕ → Ran
start_in g x y z = pick (cannot_start (seen_guest g)) (quiet (with_reg g z 0)) (in_table (pushed used_op g.table (next_op g)) (starts g x y z))

-- every other instruction leaves table and queue alone
unfoldable pub perform_in : Instr → Guest → ℕ → ℕ → Ran
perform_in Nop g n c = perform Nop g n c
perform_in (SetTo x k) g n c = perform (SetTo x k) g n c
perform_in (Add x y z) g n c = perform (Add x y z) g n c
perform_in (Sub x y z) g n c = perform (Sub x y z) g n c
perform_in (Div x y z) g n c = perform (Div x y z) g n c
perform_in (Load x y) g n c = perform (Load x y) g n c
perform_in (Store x y) g n c = perform (Store x y) g n c
perform_in (Jz x t) g n c = perform (Jz x t) g n c
perform_in (Take x y z) g n c = quiet (onward (take_in g x y z) n)
perform_in (Time x) g n c = perform (Time x) g n c
perform_in (Start x y z) g n c = moved n (start_in g x y z)
perform_in (Timer x) g n c = perform (Timer x) g n c

-- "An instruction runs only while the epoch isn't complete"
unfoldable pub instruction_in : Instr → Guest → ℕ → ℕ → ℕ → Ran
instruction_in i g n l c = pick (complete l g) (quiet g) (perform_in i g (next n g) c)
