-- What the test of a header says.
use mathlib.Core.Path.{◌≡◌, refl, sym, ◌∙◌}
use mathlib.Core.Bool.{Bool, true, false, ◌&&◌}
use mathlib.Core.List.{List}
use Prim.Native.Nat.{ℕ, ◌+◌, ◌%◌, ◌≤◌}
use borrow.Author.Tests.{leb-true, eqb-true}
use lib.Dec.{eqb, leb}
use Rattle.slots.proofs.Tests.{and_true}
use Rattle.words.specs.Numbers.{at8, at32}
use Rattle.runfile.specs.RunFile.{run_form, entry_count, program_tag, events_tag, bodies, fine_program, fine_events, fine_lengths, header}

and_yes : (b : Bool) → b && true ≡ b
and_yes true = refl
and_yes false = refl

and_no : (b : Bool) → b && false ≡ false
and_no true = refl
and_no false = refl

-- the code asks for the lengths first, and for each entry's tag and offset together
offset-first : (a t o p : Bool) → a && t && (o && p) ≡ a && o && t && p
offset-first false t o p = refl
offset-first true true true p = refl
offset-first true true false p = refl
offset-first true false true p = refl
offset-first true false false p = refl

lengths_first : (a t l o p : Bool) → a && t && (l && (o && p)) ≡ l && (a && o && t && p)
lengths_first a t true o p = offset-first a t o p
lengths_first a t false o p = and_no (a && t)

pub header-fine : (s : List ℕ) → header.fine s 0 ≡ fine_lengths (at32 s 12) (at32 s 24)
    && (eqb (at8 s 0) run_form && eqb (at8 s 1) entry_count
    && eqb (at32 s 4) program_tag && eqb (at32 s 8) bodies
    && eqb (at32 s 16) events_tag && eqb (at32 s 20) (bodies + at32 s 12))
header-fine s =
    simp and_yes
    (lengths_first (eqb (at8 s 0) run_form && eqb (at8 s 1) entry_count && eqb (at32 s 4) program_tag) (eqb (at32 s 16) events_tag)
    (fine_lengths (at32 s 12) (at32 s 24)) (eqb (at32 s 8) bodies) (eqb (at32 s 20) (bodies + at32 s 12)))

-- "Program 4 to 4,096 bytes in fours, events 0 to 32,768 in eights"
pub record Lengths (program events : ℕ) : Type 0 where
  pub program_some : 4 ≤ program
  pub program_small : program ≤ 4096
  pub program_fours : program % 4 ≡ 0
  pub events_small : events ≤ 32768
  pub events_eights : events % 8 ≡ 0

pub lengths : (p e : ℕ) → fine_lengths p e ≡ true → Lengths p e
unfolding fine_lengths fine_program fine_events
lengths p e h =
    let k = and_true (fine_program p) (fine_events e) h in
    let fours = and_true (leb 4 p && leb p 4096) (eqb (p % 4) 0) k.0 in
    let within = and_true (leb 4 p) (leb p 4096) fours.0 in
    let eights = and_true (leb e 32768) (eqb (e % 8) 0) k.1 in
    record {
      program_some = leb-true _ _ within.0;
      program_small = leb-true _ _ within.1;
      program_fours = eqb-true _ _ fours.1;
      events_small = leb-true _ _ eights.0;
      events_eights = eqb-true _ _ eights.1;
    }

pub says-fine : (s : List ℕ) → header.fine s 0 ≡ true → fine_lengths (at32 s 12) (at32 s 24) ≡ true
says-fine s h = (and_true (fine_lengths (at32 s 12) (at32 s 24)) _ (sym (header-fine s) ∙ h)).0

pub header_lengths : (s : List ℕ) → header.fine s 0 ≡ true → Lengths (at32 s 12) (at32 s 24)
header_lengths s h = lengths _ _ (says-fine s h)
