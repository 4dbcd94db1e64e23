-- The promises, proved; and that the place behind a line tells whether it is whole.
use mathlib.Core.Bool.{Bool, false, true}
use mathlib.Core.List.{List}
use mathlib.Core.Path.{◌≡◌, ap, refl, sym, ◌∙◌}
use Prim.Native.Nat.{ℕ, ◌<◌, ◌≤◌}
use native.Mathlib.Omega.{arith}
use borrow.Author.Tests.{le-ltb, lt-ltb, ltb-true}
use lib.Dec.{ltb}
use lib.ListN.{length, take}
use Rattle.slots.specs.Slots.{pick}
use Rattle.text.specs.Spelled.{Spelled}
use Rattle.text.specs.declared.Text.{Text}
use Rattle.words.proofs.Wrote.{wrote-length, wrote_there}
use Rattle.requests.specs.Answers.{Answered, Answers, Spells, whole_in}
use Rattle.requests.specs.Promises.{NoPart, WholeLine}

module _ (n : ℕ) (line : List ℕ) where
  fits : length line < n → whole_in n line ≡ length line
  unfolding whole_in
  fits h = rw (lt-ltb (length line) n h)

  fits_not : n ≤ length line → whole_in n line ≡ 0
  unfolding whole_in
  fits_not h = rw (le-ltb (length line) n h)

pub whole-line : WholeLine
whole-line w t b c e r answers h = ap (λ (k : ℕ). take k e) (answers.counts ∙ fits (length t) w.line h) ∙ wrote_there answers.wrote (omega arith)

pub no_part : NoPart
no_part w t b c e r answers h = answers.counts ∙ fits_not (length t) w.line h

-- a line that was put into a text of which nothing was spelled: up to a place before the end, or to no such place
module _ {w : Answered} {t e : Text} {b c before after : List ℕ} (s : Spells w t b c e) (is : t.bytes.now ≡ before) (empty : t.at ≡ 0) (leaves : e.bytes.now ≡ after) where
  there : Spelled before 0 w.line after e.at
  there = rw (is, empty, leaves) at s.puts.spelled

  pub is_whole : e.at < length before → Answers w before b c after e.at
  is_whole h =
      let k : e.at ≡ length w.line = omega (arith, there.behind) in
      record { wrote = there.wrote; counts = k ∙ sym (fits (length before) w.line (omega arith)); leaves_b = s.leaves_b; leaves_c = s.leaves_c }

  pub is_cut : length before ≤ e.at → Answers w before b c after 0
  is_cut h =
      record {
        wrote = there.wrote;
        counts = sym (fits_not (length before) w.line (omega (arith, there.behind)));
        leaves_b = s.leaves_b;
        leaves_c = s.leaves_c;
      }

-- what is counted stands in the text
pub within : {w : Answered} {t b c e : List ℕ} {r : ℕ} → Answers w t b c e r → r ≤ length e
unfolding whole_in
within {w} {t} {e = e} {r} answers = go (ltb (length w.line) (length t)) refl answers.counts
  where
    go : (fit : Bool) → ltb (length w.line) (length t) ≡ fit → r ≡ pick fit (length w.line) 0 → r ≤ length e
    go true h k = omega (arith, ltb-true (length w.line) (length t) h, wrote-length answers.wrote)
    go false h k = omega arith
