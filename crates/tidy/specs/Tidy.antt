-- A sound pair in memory, as the events meet it, and what an event does to it.
use Rattle.std.specs.Prelude.{true, List, ◌≡◌, ℕ}
use Rattle.rules.specs.Events.{handle}
use Rattle.rules.specs.Pair.{setup_of}
use Rattle.rules.specs.PairSlots.{laid, outcome, seen, stored}
use Rattle.rules.specs.Sound.{sound}
use Rattle.rules.specs.declared.Event.{Event}
use Rattle.rules.specs.declared.Outcome.{Outcome}
use Rattle.rules.specs.declared.Pair.{Pair}

-- the pair is what it holds, laid out; and that is sound
pub record Tidy (s : Pair) : Type 0 where
  pub again : s ≡ laid (seen s)
  pub whole : sound (seen s) ≡ true

-- what a well formed event does to a sound pair under a program of 4N bytes: its column, and its act
abbrev pub does : List ℕ → Pair → Event → Outcome
does code s ev = outcome s (stored (handle (setup_of code s) (seen s) ev))
