-- What a guest runs under: the program's bytes, its number of instructions N, and L.
use Rattle.std.specs.Prelude.{Bool, true, not, ◌&&◌, List, ℕ, zero, suc, ◌*◌, ◌/◌, length, leb, eqb}
use Rattle.rules.specs.declared.Guest.{Guest}
use Rattle.rules.specs.declared.Instr.{Instr}
use Rattle.rules.specs.declared.Ran.{Ran}
use Rattle.rules.specs.Decode.{fetch, instr_of, is_bad}
use Rattle.rules.specs.Instruction.{perform, next, is_time}

-- a program's bytes, N, and L
pub record Setup : Type 0 where
  pub code : List ℕ
  pub count : ℕ
  pub limit : ℕ

-- a program's bytes and L: "A program has N instructions .. of 4 bytes"
unfoldable pub under : List ℕ → ℕ → Setup
under code l = record { code = code; count = length code / 4; limit = l }

module _ (S : Setup) where
  -- the instruction at pc
  unfoldable pub instr : Guest → Instr
  instr g = instr_of (fetch S.code S.count g.pc)

  -- "instruction at pc bad"
  unfoldable pub bad : Guest → Bool
  bad g = is_bad (fetch S.code S.count g.pc)

  -- it is TIME
  unfoldable pub at_time : Guest → Bool
  at_time g = is_time (instr g)

  -- the instruction at pc, with the clock reading c
  unfoldable pub exec : Guest → ℕ → Ran
  exec g c = perform (instr g) g (next S.count g) c

-- the first k instructions are well formed
unfoldable pub good_up_to : List ℕ → ℕ → ℕ → Bool
good_up_to code n zero = true
good_up_to code n (suc k) = good_up_to code n k && not (is_bad (fetch code n k))

-- "A program has N instructions (1 to 1,024) of 4 bytes", all well formed
unfoldable pub good_program : List ℕ → ℕ → Bool
good_program code n = leb 1 n && leb n 1024 && eqb (length code) (4 * n) && good_up_to code n n

-- not "program or L bad"; "L instructions (1 to 4,096)"
unfoldable pub good : Setup → Bool
good S = leb 1 S.limit && leb S.limit 4096 && good_program S.code S.count
