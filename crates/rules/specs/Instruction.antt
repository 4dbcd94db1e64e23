-- One instruction.
use Rattle.std.specs.Prelude.{Bool, true, false, not, ◌||◌, List, [], ◌∷◌, ◌++◌, ℕ, zero, suc, ◌+◌, ◌-◌, ◌/◌, ◌%◌, length, get_or, set, drop, eqb, ltb, leb}
use Rattle.slots.specs.Slots.{pick, count}
use Rattle.rules.specs.declared.OpNo.{OpNo}
use Rattle.rules.specs.declared.Interrupt.{Interrupt}
use Rattle.rules.specs.declared.Guest.{Guest}
use Rattle.rules.specs.declared.Ran.{Ran}
use Rattle.rules.specs.declared.Instr.{Instr}
use Rattle.rules.specs.declared.Instr.TheVariants.{Nop, SetTo, Add, Sub, Div, Load, Store, Jz, Take, Time, Start, Timer}
use Rattle.rules.specs.Guest.{with_mem, with_timer, with_last, with_table, with_queue, with_counts, onward, reg, with_reg}
use Rattle.std.specs.Prelude.{Some, None}

-- "modulo 2^32"
abbrev pub word_size : ℕ
word_size = 4294967296

-- "r[y] ± r[z], modulo 2^32"
abbrev pub sum : ℕ → ℕ → ℕ
sum a b = (a + b) % word_size

abbrev pub difference : ℕ → ℕ → ℕ
difference a b = (a + (word_size - b)) % word_size

-- "rounded down; 4,294,967,295 for divisor 0"
unfoldable pub quotient : ℕ → ℕ → ℕ
quotient a zero = 4294967295
quotient a (suc b) = a / suc b

-- "queue statuses": 3 is the timer's, the others are devices'
abbrev pub is_timer : Interrupt → Bool
is_timer i = eqb i.status 3

-- any other is a device's
abbrev pub is_device : Interrupt → Bool
is_device i = not (is_timer i)

-- the oldest interrupt, "all 0 if the queue is empty"
unfoldable pub oldest : List Interrupt → Interrupt
oldest [] = record { status = 0; op = record { 0 = 0 }; word = 0 }
oldest (i ∷ q) = i

-- TAKE: "oldest interrupt leaves the queue: r[x] status, then r[y] operation, then r[z] data"
unfoldable pub take : Guest → ℕ → ℕ → ℕ → Guest
take g x y z =
    let i : Interrupt = oldest g.queue in
    with_reg (with_reg (with_reg (with_queue g (drop 1 g.queue)) x i.status) y i.op.0) z i.word

-- "table entries plus untaken device interrupts are 16, or the last number is 65,535"
unfoldable pub cannot_start : Guest → Bool
cannot_start g = eqb (length g.table + count is_device g.queue) 16 || eqb g.last.0 65535

-- "the next number (first is 1)"
abbrev pub next_op : Guest → OpNo
next_op g = record { 0 = suc g.last.0 }

-- nothing is shown
abbrev pub quiet : Guest → Ran
quiet g = record { guest = g; shown = None }

-- "Otherwise it takes the next number .., enters it in the table, and the word is read before r[z] is written"
unfoldable pub starts : Guest → ℕ → ℕ → ℕ → Ran
starts g x y z =
    record {
      guest = with_reg (with_table (with_last g (next_op g)) (g.table ++ (next_op g ∷ []))) z (next_op g).0;
      shown = Some (record { op = next_op g; device = y; word = reg g x });
    }

-- "START gives 0, starts nothing and shows nothing if .."
unfoldable pub start : Guest → ℕ → ℕ → ℕ → Ran
start g x y z = pick (cannot_start g) (quiet (with_reg g z 0)) (starts g x y z)

-- one more instruction is done, and n is the pc
unfoldable pub moved : ℕ → Ran → Ran
moved n r = record { guest = onward r.guest n; shown = r.shown }

-- the table of instructions; n is the pc that follows, c the clock reading
unfoldable pub perform : Instr → Guest → ℕ → ℕ → Ran
perform Nop g n c = quiet (onward g n)
perform (SetTo x k) g n c = quiet (onward (with_reg g x k) n)
perform (Add x y z) g n c = quiet (onward (with_reg g x (sum (reg g y) (reg g z))) n)
perform (Sub x y z) g n c = quiet (onward (with_reg g x (difference (reg g y) (reg g z))) n)
perform (Div x y z) g n c = quiet (onward (with_reg g x (quotient (reg g y) (reg g z))) n)
perform (Load x y) g n c = quiet (onward (with_reg g x (get_or g.mem (reg g y % 64) 0)) n)
perform (Store x y) g n c = quiet (onward (with_mem g (set g.mem (reg g y % 64) (reg g x))) n)
perform (Jz x t) g n c = quiet (onward g (pick (eqb (reg g x) 0) t n))
perform (Take x y z) g n c = quiet (onward (take g x y z) n)
perform (Time x) g n c = quiet (onward (with_counts (with_reg g x c) g.done (suc g.times)) n)
perform (Start x y z) g n c = moved n (start g x y z)
perform (Timer x) g n c = quiet (onward (with_timer g true (reg g x)) n)

-- "pc moves on by 1, from N-1 to 0"
unfoldable pub next : ℕ → Guest → ℕ
next n g = pick (ltb (suc g.pc) n) (suc g.pc) 0

-- "An epoch is complete after L instructions .. or its 40th TIME"
unfoldable pub complete : ℕ → Guest → Bool
complete l g = leb l g.done || leb 40 g.times

-- only TIME reads the clock
unfoldable pub is_time : Instr → Bool
is_time Nop = false
is_time (SetTo x k) = false
is_time (Add x y z) = false
is_time (Sub x y z) = false
is_time (Div x y z) = false
is_time (Load x y) = false
is_time (Store x y) = false
is_time (Jz x t) = false
is_time (Take x y z) = false
is_time (Time x) = true
is_time (Start x y z) = false
is_time (Timer x) = false
