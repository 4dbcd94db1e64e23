-- How long the lines are at most.
use Prim.Native.Nat.{ℕ, ◌<◌, ◌≤◌}
use native.Mathlib.Omega.{arith}
use lib.ListN.{length, length-append}
use Rattle.text.specs.Lines.{end_length, end_line, entry_length, entry_line, entry_text, number_field}
use Rattle.text.proofs.Numbers.{decimal-few}

pub entry-short : (op device word : ℕ) → op < 65536 → device < 256 → word < 4294967296 → length (entry_line op device word) ≤ entry_length
unfolding entry_line entry_text number_field
entry-short op device word o d w =
    simp length-append
    (omega (arith, decimal-few 4 op (omega arith), decimal-few 2 device (omega arith), decimal-few 9 word (omega arith)))

pub end_short : (a c : ℕ) → a < 100 → c ≤ 4096 → length (end_line a c) ≤ end_length
unfolding end_line number_field
end_short a c h k = simp length-append (omega (arith, decimal-few 1 a (omega arith), decimal-few 3 c (omega arith)))
