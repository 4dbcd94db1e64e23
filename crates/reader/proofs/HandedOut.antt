-- The events that a reader hands out, one after the other.
use mathlib.Core.Logic.{◌⊎◌, inl, inr}
use mathlib.Core.Path.{◌≡◌, refl, sym, ap, ◌∙◌}
use mathlib.Core.List.{List}
use Prim.Native.Nat.{ℕ, zero, suc, ◌*◌, ◌≤◌, ◌<◌}
use native.Mathlib.Nat.{eq-or-lt_of_le, suc-mul, zero-add}
use native.Mathlib.Numerals.{add-one}
use native.Mathlib.Omega.{arith}
use lib.ListN.{length, take}
use lib.Seq.{take_all}
use denote.Ref.{Bor}
use Rattle.words.specs.Arrays.{each, tab}
use Rattle.words.proofs.Arrays.{each-one_more}
use Rattle.forms.proofs.Part.{part_length, part_join}
use Rattle.runfile.specs.RunFile.{read_events}
use Rattle.runfile.proofs.Reading.{in_eights}
use Rattle.reader.specs.Events.{event_length, event_count, event_at}
use Rattle.reader.specs.HandedOut.{asked, handed_out, HandsOutAll, HandsOutWhole, StaysAtTheEnd}
use Rattle.reader.specs.Place.{reader_at, stands_at, moved_on}
use Rattle.reader.proofs.Events.{no_event, stays, moves}

module _ (file : Bor (List ℕ)) where
  abbrev events : ℕ
  events = event_count file.now

  -- as long as there are events, the place is the number of those that were asked for
  at_place : (n : ℕ) → n ≤ events → asked n (reader_at file 0) ≡ reader_at file n
  unfolding asked
  at_place zero h = refl
  at_place (suc n) h = ap moved_on (at_place n (omega arith)) ∙ ap (reader_at file) (moves file.now n (omega arith) ∙ add-one n)

  -- and then it is that of the end: it was reached with this call, or before it
  once_more : (n : ℕ) → (events ≤ n → asked n (reader_at file 0) ≡ reader_at file events) → (events ≡ suc n) ⊎ (events < suc n) → asked (suc n) (reader_at file 0) ≡ reader_at file events
  unfolding asked
  once_more n before (inl e) = at_place (suc n) (omega arith) ∙ ap (reader_at file) (sym e)
  once_more n before (inr l) = ap moved_on (before (omega arith)) ∙ ap (reader_at file) (stays file.now events (omega arith))

  at-end : (n : ℕ) → events ≤ n → asked n (reader_at file 0) ≡ reader_at file events
  unfolding asked
  at-end zero h = let none : 0 ≡ events = omega arith in ap (reader_at file) none
  at-end (suc n) h = once_more n (at-end n) (eq-or-lt_of_le h)

  handed : (n : ℕ) → n < events → handed_out file n ≡ event_at file.now n
  handed n h = ap stands_at (at_place n (omega arith))

  -- the first n of them are the bytes before place n
  first : (n : ℕ) → n ≤ events → each (λ e. e) (tab (handed_out file) n) ≡ take (n * event_length) (read_events file.now)
  unfolding each tab event_at
  first zero h = refl
  first (suc n) h =
      each-one_more (λ e. e) (tab (handed_out file) n) (handed_out file n)
      ∙ rw (first n (omega arith), handed n (omega arith), suc-mul) (rw zero-add at (sym (part_join (read_events file.now) 0 (n * event_length) event_length)))

pub hands_out_all : HandsOutAll
hands_out_all file =
    let s = file.now in
    first file (event_count s) (omega arith) ∙ take_all (event_count s * event_length) (read_events s) (omega (arith, in_eights s))

pub hands_out_whole : HandsOutWhole
unfolding event_at
hands_out_whole file n h =
    let e = handed file n h in
    (ap length e ∙ part_length (read_events file.now) (n * event_length) event_length (omega arith), e)

pub stays-at_the_end : StaysAtTheEnd
stays-at_the_end file n h =
    let e = at-end file n h in
    let s = file.now in
    (ap stands_at e ∙ no_event s (event_count s) (omega arith), ap moved_on e ∙ ap (reader_at file) (stays s (event_count s) (omega arith)) ∙ sym e)
