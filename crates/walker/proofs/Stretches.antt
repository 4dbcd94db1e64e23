-- A stretch on its way through the events.
use mathlib.Core.Bool.{true, false}
use mathlib.Core.List.{List}
use mathlib.Core.Path.{◌≡◌, refl}
use Prim.Native.Nat.{ℕ, zero, suc, ◌+◌, ◌-◌, ◌<◌, ◌≤◌}
use native.Mathlib.Omega.{arith}
use Rattle.reader.specs.Events.{event_at, place_after}
use Rattle.rules.specs.Bytes.{stepped}
use Rattle.rules.specs.declared.Pair.{Pair}
use Rattle.walker.specs.declared.Stretch.{Stretch}
use Rattle.walker.specs.Stretches.{quiet, one_more, until_shown}
use Rattle.rules.specs.declared.RecordEntry.{RecordEntry}
use Rattle.rules.specs.Answer.{Answer}
use Rattle.std.specs.Prelude.{Option}

module _ (file program : List ℕ) (z : Stretch) where
  goes_on : (left : ℕ) → quiet z.last.answer z.last.shown ≡ true → until_shown file program z (suc left) ≡ until_shown file program (one_more file program z) left
  unfolding until_shown
  goes_on left q = rw q

  -- an event more, by what the reader and the pair then are
  pub turned : (events k at : ℕ) (event : List ℕ) (p : Pair) (a : Answer) (s : Option RecordEntry) → quiet z.last.answer z.last.shown ≡ true → k < events
      → event ≡ event_at file z.at → at ≡ place_after file z.at
      → a ≡ (stepped program z.pair event).answer → s ≡ (stepped program z.pair event).shown → p ≡ (stepped program z.pair event).pair
      → until_shown file program z (events - k) ≡ until_shown file program (record { at = at; pair = p; last = record { answer = a; shown = s } }) (events - (k + 1))
  turned events k at event p a s q h e n x y w =
      let left : events - k ≡ suc (events - (k + 1)) = omega arith in
      rw (left, n, x, y, w, e) (goes_on (events - (k + 1)) q)

  -- no event more: where the last was not quiet, or none is left
  pub ends : (left : ℕ) → quiet z.last.answer z.last.shown ≡ false → until_shown file program z left ≡ z
  unfolding until_shown
  ends zero q = refl
  ends (suc left) q = rw q

  pub none_left : (events k : ℕ) → events ≤ k → until_shown file program z (events - k) ≡ z
  unfolding until_shown
  none_left events k h =
      let nothing : events - k ≡ zero = omega arith in
      rw nothing
