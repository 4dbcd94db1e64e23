-- A run file byte for byte, and files that are refused.
use mathlib.Core.{List.{[], ◌++◌, ◌∷◌, List}, Path.◌≡◌}
use Rattle.std.specs.Prelude.{ℕ, replicate, set, take}
use Rattle.rules.specs.PairSlots.{answer_number}
use Rattle.runfile.specs.RunFile.{read_answer, read_events, read_limit, read_program, run_bytes, write_answer}

-- L 2, a program of one NOP, one event PEND
unfoldable pub nop : List ℕ
nop = 0 ∷ 0 ∷ 0 ∷ 0 ∷ []

unfoldable pub pend : List ℕ
pend = 4 ∷ 0 ∷ 0 ∷ 0 ∷ 0 ∷ 0 ∷ 0 ∷ 0 ∷ []

-- "form (one byte, 1), entry count (one byte, 2), L (2 bytes); contents: two entries of tag, offset, length (4 bytes each)"; then the bodies
unfoldable pub file : List ℕ
file =
    1 ∷ 2 ∷ 2 ∷ 0
    ∷ 1 ∷ 0 ∷ 0 ∷ 0 ∷ 28 ∷ 0 ∷ 0 ∷ 0 ∷ 4 ∷ 0 ∷ 0 ∷ 0
    ∷ 2 ∷ 0 ∷ 0 ∷ 0 ∷ 32 ∷ 0 ∷ 0 ∷ 0 ∷ 8 ∷ 0 ∷ 0 ∷ 0
    ∷ 0 ∷ 0 ∷ 0 ∷ 0
    ∷ 4 ∷ 0 ∷ 0 ∷ 0 ∷ 0 ∷ 0 ∷ 0 ∷ 0 ∷ []

-- "bad run file" 10
abbrev pub Bad : List ℕ → Type 0
Bad s = answer_number (read_answer s) ≡ 10

-- a program and events of so many bytes: written into no room at all, 10 or else 9
abbrev pub Writing : ℕ → ℕ → ℕ → Type 0
Writing program events n = answer_number (write_answer (replicate program 0) (replicate events 0) []) ≡ n

pub record Cases : Type 0 where
  pub written : run_bytes 2 nop pend ≡ file
  -- it is taken, and so is one whose L is 0: that is not judged
  pub taken : answer_number (read_answer file) ≡ 0
  pub any_limit : answer_number (read_answer (set file 2 0)) ≡ 0
  pub limit : read_limit file ≡ 2
  pub program : read_program file ≡ nop
  pub events : read_events file ≡ pend
  -- "nothing after"; the last byte missing; the header alone; nothing at all
  pub longer : Bad (file ++ (0 ∷ []))
  pub shorter : Bad (take 39 file)
  pub header_alone : Bad (take 28 file)
  pub nothing : Bad []
  -- another form, entry count, tag, offset or length, of either entry
  pub form : Bad (set file 0 2)
  pub entries : Bad (set file 1 3)
  pub program_tag : Bad (set file 4 2)
  pub events_tag : Bad (set file 16 1)
  pub program_offset : Bad (set file 8 27)
  pub events_offset : Bad (set file 20 31)
  pub program_length : Bad (set file 12 5)
  pub events_length : Bad (set file 24 7)
  -- "Program 4 to 4,096 bytes in fours, events 0 to 32,768 in eights"; "Writing one: 10 for a length that breaks these rules, then 9"
  pub no_program : Writing 0 0 10
  pub one_instruction : Writing 4 0 9
  pub not_in_fours : Writing 6 0 10
  pub most_instructions : Writing 4096 0 9
  pub too_many_instructions : Writing 4100 0 10
  pub not_in_eights : Writing 4 4 10
