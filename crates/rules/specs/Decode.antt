-- An instruction is four bytes: code, x, y, z.
use Rattle.std.specs.Prelude.{Bool, true, false, ◌&&◌, List, ℕ, ◌+◌, ◌*◌, get_or, eqb, ltb}
use Rattle.slots.specs.Slots.{pick}
use Rattle.rules.specs.declared.Instr.{Instr}
use Rattle.rules.specs.declared.Instr.TheVariants.{Nop, SetTo, Add, Sub, Div, Load, Store, Jz, Take, Time, Start, Timer}
use Rattle.std.specs.Prelude.{Some, None, Option}

-- the instruction where the test holds
unfoldable pub allow : Bool → Instr → Option Instr
allow true i = Some i
allow false i = None

-- "registers below 8", "unused bytes 0": none of x, y, z is used
abbrev pub none : ℕ → ℕ → ℕ → Bool
none x y z = eqb x 0 && eqb y 0 && eqb z 0

-- x alone is a register
abbrev pub one : ℕ → ℕ → ℕ → Bool
one x y z = ltb x 8 && eqb y 0 && eqb z 0

-- x and y are registers
abbrev pub two : ℕ → ℕ → ℕ → Bool
two x y z = ltb x 8 && ltb y 8 && eqb z 0

-- all three are registers
abbrev pub three : ℕ → ℕ → ℕ → Bool
three x y z = ltb x 8 && ltb y 8 && ltb z 8

-- "Well formed: a listed code, registers below 8, device below 4, jump target below N, unused bytes 0"
unfoldable pub decode : ℕ → ℕ → ℕ → ℕ → ℕ → Option Instr
decode c x y z n =
    pick (eqb c 0) (allow (none x y z) Nop)
    (pick (eqb c 1) (allow (ltb x 8) (SetTo x (256 * y + z)))
    (pick (eqb c 2) (allow (three x y z) (Add x y z))
    (pick (eqb c 3) (allow (three x y z) (Sub x y z))
    (pick (eqb c 4) (allow (three x y z) (Div x y z))
    (pick (eqb c 5) (allow (two x y z) (Load x y))
    (pick (eqb c 6) (allow (two x y z) (Store x y))
    (pick (eqb c 7) (allow (ltb x 8 && ltb (256 * y + z) n) (Jz x (256 * y + z)))
    (pick (eqb c 8) (allow (three x y z) (Take x y z))
    (pick (eqb c 16) (allow (one x y z) (Time x))
    (pick (eqb c 17) (allow (ltb x 8 && ltb y 4 && ltb z 8) (Start x y z))
    (pick (eqb c 18) (allow (one x y z) (Timer x))
    None)))))))))))

-- the instruction at pc, of a program of n instructions
unfoldable pub fetch : List ℕ → ℕ → ℕ → Option Instr
fetch code n pc =
    pick (ltb pc n) (decode (get_or code (4 * pc) 0) (get_or code (4 * pc + 1) 0) (get_or code (4 * pc + 2) 0) (get_or code (4 * pc + 3) 0) n) None

-- not well formed
unfoldable pub is_bad : Option Instr → Bool
is_bad (Some i) = false
is_bad None = true

-- a bad instruction is refused before it runs; NOP only stands in its place
unfoldable pub instr_of : Option Instr → Instr
instr_of (Some i) = i
instr_of None = Nop
