-- "each refusal comes in the named situation and in no other": what reading and writing a run file answer, by 01's numbers.
use mathlib.Core.{Bool.{false, true}, List.List, Logic.◌↔◌, Path.◌≡◌}
use Rattle.std.specs.Prelude.{◌<◌, ◌≤◌, ℕ, length}
use Rattle.rules.specs.PairSlots.{answer_number}
use Rattle.runfile.specs.RunFile.{fine_lengths, is_run_file, read_answer, run_length, write_answer}

-- 10 "bad run file"
pub record ReadRefusals (s : List ℕ) : Type 0 where
  pub bad_file : answer_number (read_answer s) ≡ 10 ↔ is_run_file s ≡ false
  pub taken : answer_number (read_answer s) ≡ 0 ↔ is_run_file s ≡ true

-- "Writing one: 10 for a length that breaks these rules, then 9"
pub record WriteRefusals (program events b : List ℕ) : Type 0 where
  pub bad_file : answer_number (write_answer program events b) ≡ 10 ↔ fine_lengths (length program) (length events) ≡ false
  pub too_short : answer_number (write_answer program events b) ≡ 9 ↔ (fine_lengths (length program) (length events) ≡ true) × (length b < run_length program events)
  pub taken : answer_number (write_answer program events b) ≡ 0 ↔ (fine_lengths (length program) (length events) ≡ true) × (run_length program events ≤ length b)
