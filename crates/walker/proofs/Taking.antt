-- The events of a run file, taken stretch by stretch: the bench's way through them, a stretch at a time.
use mathlib.Core.Bool.{Bool, true, false}
use mathlib.Core.List.{List}
use mathlib.Core.Path.{◌≡◌, refl}
use Prim.Native.Nat.{ℕ, zero, suc, ◌+◌, ◌-◌, ◌<◌, ◌≤◌}
use native.Mathlib.Omega.{arith}
use lib.Dec.{T as Holds}
use lib.ListN.{length}
use Rattle.desk.proofs.Going.{Going, going_more, going_stops}
use Rattle.desk.specs.Bench.{PutsRun, lines, shown_line, stopped, takes}
use Rattle.reader.proofs.Events.{moves}
use Rattle.reader.specs.Events.{event_at, event_count, place_after}
use Rattle.rules.specs.Bytes.{stepped}
use Rattle.rules.specs.declared.Pair.{Pair}
use Rattle.rules.specs.declared.Refusal.{Refusal}
use Rattle.runfile.specs.RunFile.{read_program}
use Rattle.slots.specs.Slots.{pick}
use Rattle.text.proofs.Texts.{still}
use Rattle.text.specs.Lines.{entry_length}
use Rattle.text.specs.Texts.{Puts}
use Rattle.text.specs.declared.Text.{Text}
use Rattle.walker.specs.declared.Stretch.{Stretch}
use Rattle.walker.specs.Stretches.{quiet, from, one_more, until_shown}
use Rattle.rules.specs.declared.RecordEntry.{RecordEntry}
use Rattle.rules.specs.Answer.{Answer}
use Rattle.std.specs.Prelude.{Some, None, Option, Ok, Err}

-- a quiet event was taken, and has no line
quiet-taken : (a : Answer) (s : Option RecordEntry) → Holds (quiet a s) → (a ≡ Ok tt) × (s ≡ None)
unfolding quiet
quiet-taken (Ok tt) None h = (refl, refl)
quiet-taken (Ok tt) (Some e) h = absurd h
quiet-taken (Err why) s h = absurd h

module _ (file : List ℕ) (fresh : Pair) (events : ℕ) (t₀ t : Text) where
  -- a stretch as the bench sees it, with the text that it began with. Where its last event was taken and its line is spelled, the bench would
  -- stand there too; where it was refused and the end is spelled, the bench would have ended so. It has come past the place k.
  pub record Along (k : ℕ) (z : Stretch) : Type 0 where
    pub passed : k ≤ z.at
    pub taken : {t' : Text} → z.last.answer ≡ Ok tt → Puts t (shown_line z.last.shown) t' → length (shown_line z.last.shown) ≤ entry_length
        → Going file fresh z.pair z.at events t₀ t'
    pub refused : {why : Refusal} {e : Text} → z.last.answer ≡ Err why → Puts t (lines (stopped (Err why) (z.at - 1))) e
        → PutsRun (takes file fresh 0 (event_count file)) t₀ e

  -- the bench stands where a stretch does
  abbrev Here : Stretch → Type 0
  Here z = Going file fresh z.pair z.at events t₀ t

  abbrev more : Stretch → Stretch
  more z = one_more file (read_program file) z

  -- one event more
  along_more : (k : ℕ) (z : Stretch) → k ≤ z.at + 1 → Here z → z.at < events → Along k (more z)
  along_more k z p g room =
      let o = stepped (read_program file) z.pair (event_at file z.at) in
      let on : place_after file z.at ≡ z.at + 1 = moves file z.at (rw g.count at room) in
      let back : z.at + 1 - 1 ≡ z.at = omega arith in
      record {
        passed = omega (arith, on);
        taken = λ a q short. rw on (going_more file fresh g o room refl a q short);
        refused = λ a q. going_stops file fresh g o room refl a (rw (on, back) at q);
      }

  -- after a quiet event no line is wanted
  here : (k : ℕ) (z : Stretch) → Along k z → Holds (quiet z.last.answer z.last.shown) → Here z
  unfolding shown_line
  here k z a h =
      let was = quiet-taken z.last.answer z.last.shown h in
      a.taken was.0 (rw was.1 still) (rw was.1 (omega arith))

  either : (k : ℕ) (b : Bool) (x y : Stretch) → (Holds b → Along k x) → Along k y → Along k (pick b x y)
  either k true x y p q = p tt
  either k false x y p q = q

  -- and so on, to the stretch's end
  along : (left k : ℕ) (z : Stretch) → Along k z → z.at + left ≡ events → Along k (until_shown file (read_program file) z left)
  unfolding until_shown
  along zero k z a e = a
  along (suc left) k z a e =
      either k (quiet z.last.answer z.last.shown) _ z
      (λ h.
      let g = here k z a h in
      let room : z.at < events = omega (arith, e) in
      along left k (more z) (along_more k z (omega (arith, a.passed)) g room) (omega (arith, e, moves file z.at (rw g.count at room)))) a

  -- a stretch from a place where the bench stands comes past that place
  pub stretch_along : {s : Pair} {n : ℕ} → Going file fresh s n events t₀ t → n < events → (r : Stretch) → r ≡ until_shown file (read_program file) (from n s) (events - n) → Along (n + 1) r
  unfolding until_shown quiet
  stretch_along {s} {n} g room r e =
      let left = events - (n + 1) in
      let some : events - n ≡ suc left = omega arith in
      let first = along_more (n + 1) (from n s) (omega arith) g room in
      rw (e, some) (along left (n + 1) (more (from n s)) first (omega (arith, moves file n (rw g.count at room))))
