-- What is promised of run files, over the definitions that the contracts of `check`, `limit`, `program`, `events` and `write` cite.
use Rattle.rules.specs.Answer.{Answer}
use Rattle.std.specs.Prelude.{◌≡◌, List, ℕ, length, take, drop}
use Rattle.words.specs.Numbers.{Bytes}
use Rattle.rules.specs.PairSlots.{answer_number}
use Rattle.runfile.specs.RunFile.{read_answer, read_limit, read_program, read_events, run_length, write_answer, written, Writes}

-- s is read as this L, this program and these events
pub record Reads (s : List ℕ) (limit : ℕ) (program events : List ℕ) : Type 0 where
  pub answers : answer_number (read_answer s) ≡ 0
  pub reads-limit : read_limit s ≡ limit
  pub reads-program : read_program s ≡ program
  pub reads-events : read_events s ≡ events

-- A run file that was written, at the front of any buffer, is read as what it was written of.
abbrev pub ReadsWhatWasWritten : Type 0
ReadsWhatWasWritten =
    (limit : ℕ) (program events b : List ℕ)
    → answer_number (write_answer program events b) ≡ 0
    → Reads (take (run_length program events) (written limit program events b)) limit program events

-- What reading accepts, writing gives back byte for byte, in any buffer of the file's length.
abbrev pub WritesWhatWasRead : Type 0
WritesWhatWasRead =
    (s b : List ℕ)
    → Bytes s
    → answer_number (read_answer s) ≡ 0
    → length b ≡ length s
    → (r : Answer) (e : List ℕ)
    → Writes (read_limit s) (read_program s) (read_events s) b r e
    → (answer_number r ≡ 0) × (e ≡ s)

-- A refused write leaves the buffer as it was.
abbrev pub RefusedWrite : Type 0
RefusedWrite = (limit : ℕ) (program events b : List ℕ) (r : Answer) (e : List ℕ) → Writes limit program events b r e → (answer_number r ≡ 0 → ⊥) → e ≡ b

-- "writing a run file, into a longer buffer keeps the rest of it"
abbrev pub KeepsTheRest : Type 0
KeepsTheRest =
    (limit : ℕ) (program events b : List ℕ) (r : Answer) (e : List ℕ)
    → Writes limit program events b r e
    → drop (run_length program events) e ≡ drop (run_length program events) b
