-- The lines of a run: how they are put together, and how many bytes they have at most.
use mathlib.Core.List.{List, ◌++◌, append_assoc}
use mathlib.Core.Path.{◌≡◌, refl, sym, ap, ◌∙◌}
use Prim.Native.Nat.{ℕ, ◌<◌, ◌≤◌}
use native.Mathlib.Omega.{arith}
use lib.ListN.{length, take}
use Rattle.rules.specs.declared.Refusal.{Refusal}
use Rattle.rules.specs.declared.Refusal.TheVariants.{BadFile, BadProgram, Dead, EpochsUsedUp, InboxFull, Malformed, MustWait, OutOfTurn, TooShort, UnknownOperation, Unsound}
use Rattle.rules.specs.Events.{number}
use Rattle.rules.specs.PairSlots.{answer_number}
use Rattle.text.proofs.Lines.{end_short}
use Rattle.text.proofs.Spelled.{front}
use Rattle.text.specs.Lines.{end_length, end_line}
use Rattle.words.specs.Arrays.{each}
use Rattle.desk.specs.Bench.{Prints, Run, stopped, line_of, lines, most_events, shown_line, shows, text_length}
use Rattle.rules.specs.declared.RecordEntry.{RecordEntry}
use Rattle.rules.specs.Answer.{Answer}
use Rattle.std.specs.Prelude.{Some, None, Option, Ok, Err}

-- what is shown first stands first
pub shown-first : (s : Option RecordEntry) (later : Run) → lines (shows s later) ≡ shown_line s ++ lines later
unfolding lines shows shown_line each
shown-first None later = refl
shown-first (Some e) later = append_assoc (line_of e) _ _

-- a run that ends has one line
pub ends : (a : Answer) (n : ℕ) → lines (stopped a n) ≡ end_line (answer_number a) n
unfolding lines stopped each
ends a n = refl

two_digits : (a : Answer) → answer_number a < 100
unfolding answer_number number
two_digits (Ok tt) = omega arith
two_digits (Err why) = small why
  where
    small : (why : Refusal) → number why < 100
    small Malformed = omega arith
    small Dead = omega arith
    small OutOfTurn = omega arith
    small MustWait = omega arith
    small UnknownOperation = omega arith
    small InboxFull = omega arith
    small EpochsUsedUp = omega arith
    small BadProgram = omega arith
    small TooShort = omega arith
    small BadFile = omega arith
    small Unsound = omega arith

pub ends_short : (a : Answer) (n : ℕ) → n ≤ most_events → length (lines (stopped a n)) ≤ end_length
ends_short a n h = rw (ends a n) (end_short (answer_number a) n (two_digits a) h)

-- in a text of the full length, all that is printed stands at the front
pub stands : {bs t e : List ℕ} {r : ℕ} → Prints bs t e r → length t ≡ text_length → (take r e ≡ bs) × (r ≡ length (take r e))
stands {bs} {t} {e} {r} p full =
    let there = front p.spelled (omega (arith, p.short)) in
    (there.1, there.0 ∙ ap length (sym there.1))
