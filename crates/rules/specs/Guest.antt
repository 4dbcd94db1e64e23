-- The guest: fresh, and with one part changed. Table and queue are plain lists here: their free slots are left out (GuestSlots).
use Rattle.std.specs.Prelude.{Bool, false, List, [], map, ℕ, suc, get_or, set, replicate, eqb}
use Rattle.slots.specs.Slots.{any}
use Rattle.rules.specs.declared.OpNo.{OpNo}
use Rattle.rules.specs.declared.Interrupt.{Interrupt}
use Rattle.rules.specs.declared.Guest.{Guest}

-- "Fresh: all zero"
unfoldable pub fresh : Guest
fresh = record { pc = 0; done = 0; times = 0; armed = false; deadline = 0; regs = replicate 8 0; mem = replicate 64 0; last = record { 0 = 0 }; table = []; queue = [] }

-- the guest with one part changed
abbrev pub with_regs : Guest → List ℕ → Guest
with_regs g rs = record { pc = g.pc; done = g.done; times = g.times; armed = g.armed; deadline = g.deadline; regs = rs; mem = g.mem; last = g.last; table = g.table; queue = g.queue }

abbrev pub with_mem : Guest → List ℕ → Guest
with_mem g ms = record { pc = g.pc; done = g.done; times = g.times; armed = g.armed; deadline = g.deadline; regs = g.regs; mem = ms; last = g.last; table = g.table; queue = g.queue }

abbrev pub with_timer : Guest → Bool → ℕ → Guest
with_timer g a d = record { pc = g.pc; done = g.done; times = g.times; armed = a; deadline = d; regs = g.regs; mem = g.mem; last = g.last; table = g.table; queue = g.queue }

abbrev pub with_last : Guest → OpNo → Guest
with_last g o = record { pc = g.pc; done = g.done; times = g.times; armed = g.armed; deadline = g.deadline; regs = g.regs; mem = g.mem; last = o; table = g.table; queue = g.queue }

abbrev pub with_table : Guest → List OpNo → Guest
with_table g t = record { pc = g.pc; done = g.done; times = g.times; armed = g.armed; deadline = g.deadline; regs = g.regs; mem = g.mem; last = g.last; table = t; queue = g.queue }

abbrev pub with_queue : Guest → List Interrupt → Guest
with_queue g q = record { pc = g.pc; done = g.done; times = g.times; armed = g.armed; deadline = g.deadline; regs = g.regs; mem = g.mem; last = g.last; table = g.table; queue = q }

-- the counts of this epoch
abbrev pub with_counts : Guest → ℕ → ℕ → Guest
with_counts g d t = record { pc = g.pc; done = d; times = t; armed = g.armed; deadline = g.deadline; regs = g.regs; mem = g.mem; last = g.last; table = g.table; queue = g.queue }

-- the instruction is done, and n is the pc
abbrev pub onward : Guest → ℕ → Guest
onward g n = record { pc = n; done = suc g.done; times = g.times; armed = g.armed; deadline = g.deadline; regs = g.regs; mem = g.mem; last = g.last; table = g.table; queue = g.queue }

-- r[x], and the guest with v in r[x]
abbrev pub reg : Guest → ℕ → ℕ
reg g x = get_or g.regs x 0

-- the guest with v in r[x]
abbrev pub with_reg : Guest → ℕ → ℕ → Guest
with_reg g x v = with_regs g (set g.regs x v)

-- is the operation in the list?
unfoldable pub listed : OpNo → List OpNo → Bool
listed n os = any (λ (o : OpNo). eqb o.0 n.0) os

-- the operations of interrupts
unfoldable pub ops_of : List Interrupt → List OpNo
ops_of is = map (λ (i : Interrupt). i.op) is
