-- What is written of a run file.
use mathlib.Core.Path.{◌≡◌, refl, sym, ap}
use mathlib.Core.Bool.{true, false}
use mathlib.Core.List.{List, [], ◌∷◌, ◌++◌}
use Prim.Native.Nat.{ℕ, ◌≤◌, ◌<◌}
use borrow.Author.Tests.{lt-ltb, le-ltb}
use lib.ListN.{length, length-append}
use Rattle.words.specs.Arrays.{each}
use Rattle.words.specs.Numbers.{le8}
use Rattle.words.specs.Wrote.{Wrote}
use Rattle.forms.specs.Lent.{refusing, where_taken}
use Rattle.forms.proofs.Lent.{at_the_front}
use Rattle.rules.specs.declared.Refusal.{Refusal}
use Rattle.rules.specs.declared.Refusal.TheVariants.{BadFile, TooShort}
use Rattle.runfile.specs.RunFile.{fine_lengths, header, header_of, run_bytes, run_length, write_answer, written, Writes}
use Rattle.std.specs.Prelude.{Ok, Err}

-- bytes one behind the other are themselves
pub each-byte : (xs : List ℕ) → each le8 xs ≡ xs
unfolding each
each-byte [] = refl
each-byte (x ∷ xs) = ap (λ (ys : List ℕ). x ∷ ys) (each-byte xs)

module _ (limit : ℕ) (program events : List ℕ) where
  pub run_length_lem : length (run_bytes limit program events) ≡ run_length program events
  unfolding run_bytes
  run_length_lem = let h = header.bytes (header_of limit (length program) (length events)) in rw (length-append (h ++ program) events, length-append h program)

-- what is answered, in 01's order
module _ (program events b : List ℕ) where
  pub bad-length : fine_lengths (length program) (length events) ≡ false → write_answer program events b ≡ Err BadFile
  unfolding write_answer refusing
  bad-length h = rw h

  pub too_short : fine_lengths (length program) (length events) ≡ true → length b < run_length program events → write_answer program events b ≡ Err TooShort
  unfolding write_answer refusing
  too_short h k = rw (h, lt-ltb _ _ k)

  pub room : fine_lengths (length program) (length events) ≡ true → run_length program events ≤ length b → write_answer program events b ≡ Ok tt
  unfolding write_answer refusing
  room h k = rw (h, le-ltb _ _ k)

-- and what is left in the buffer
module _ {limit : ℕ} {program events b : List ℕ} where
  pub refuses : {why : Refusal} → write_answer program events b ≡ Err why → Writes limit program events b (Err why) b
  unfolding written where_taken
  refuses a = record { answers = sym a; leaves = rw a }

  pub takes : {e : List ℕ} → write_answer program events b ≡ Ok tt → run_length program events ≤ length b → Wrote b 0 (run_bytes limit program events) e
      → Writes limit program events b (Ok tt) e
  unfolding written where_taken
  takes a k w = record { answers = sym a; leaves = rw a (at_the_front w _ (run_length_lem limit program events) k) }
