-- What is read of a run file, and of any other file.
use mathlib.Core.Path.{◌≡◌, refl}
use mathlib.Core.Bool.{Bool, true, false}
use mathlib.Core.List.{List, []}
use Prim.Native.Nat.{ℕ, ◌+◌, ◌%◌}
use native.Mathlib.Omega.{arith}
use borrow.Author.Tests.{eqb-true}
use lib.Dec.{eqb}
use lib.ListN.{length, take, drop}
use Rattle.slots.proofs.Tests.{and_true}
use Rattle.words.specs.Numbers.{at16, at32}
use Rattle.forms.proofs.Part.{part_length}
use Rattle.forms.specs.Lent.{refusing, where_taken}
use Rattle.rules.specs.declared.Refusal.TheVariants.{BadFile}
use Rattle.runfile.specs.RunFile.{bodies, header, is_run_file, read_answer, read_limit, read_program, read_events}
use Rattle.runfile.proofs.Header.{Lengths, header_lengths}
use Rattle.std.specs.Prelude.{Ok, Err}

module _ (s : List ℕ) (h : is_run_file s ≡ true) where
  pub taken : read_answer s ≡ Ok tt
  unfolding read_answer refusing
  taken = rw h

  pub limit_there : read_limit s ≡ at16 s 2
  unfolding read_limit where_taken
  limit_there = rw taken

  pub program_there : read_program s ≡ take (at32 s 12) (drop bodies s)
  unfolding read_program where_taken
  program_there = rw taken

  pub events_there : read_events s ≡ take (at32 s 24) (drop (bodies + at32 s 12) s)
  unfolding read_events where_taken
  events_there = rw taken

-- a run file: its header is fine, its lengths follow the rules, it has the two bodies and nothing after
pub record Whole (s : List ℕ) : Type 0 where
  pub fine : header.fine s 0 ≡ true
  pub lengths : Lengths (at32 s 12) (at32 s 24)
  pub all : length s ≡ bodies + at32 s 12 + at32 s 24
  pub program : read_program s ≡ take (at32 s 12) (drop bodies s)
  pub events : read_events s ≡ take (at32 s 24) (drop (bodies + at32 s 12) s)

pub whole : (s : List ℕ) → is_run_file s ≡ true → Whole s
unfolding is_run_file
whole s h =
    let k = and_true (header.fine s 0) (eqb (length s) (bodies + at32 s 12 + at32 s 24)) h in
    record { fine = k.0; lengths = header_lengths s k.0; all = eqb-true _ _ k.1; program = program_there s h; events = events_there s h }

-- and so its parts have their lengths
module _ (s : List ℕ) (h : is_run_file s ≡ true) where
  pub program-size : length (read_program s) ≡ at32 s 12
  program-size = let w = whole s h in rw (program_there s h) (part_length s bodies (at32 s 12) (omega arith))

  pub events-size : length (read_events s) ≡ at32 s 24
  events-size = let w = whole s h in rw (events_there s h) (part_length s (bodies + at32 s 12) (at32 s 24) (omega arith))

module _ (s : List ℕ) (h : is_run_file s ≡ false) where
  pub refused : read_answer s ≡ Err BadFile
  unfolding read_answer refusing
  refused = rw h

  pub no_limit : read_limit s ≡ 0
  unfolding read_limit where_taken
  no_limit = rw refused

  pub no_program : read_program s ≡ []
  unfolding read_program where_taken
  no_program = rw refused

  pub no_events_lem : read_events s ≡ []
  unfolding read_events where_taken
  no_events_lem = rw refused

-- "events .. in eights", of any file
pub in_eights : (s : List ℕ) → length (read_events s) % 8 ≡ 0
in_eights s = either (is_run_file s) refl
  where
    either : (b : Bool) → is_run_file s ≡ b → length (read_events s) % 8 ≡ 0
    either true h = rw (events-size s h) (whole s h).lengths.events_eights
    either false h = rw (no_events_lem s h)
