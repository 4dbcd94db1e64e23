-- Whether a place has an event.
use mathlib.Core.Path.{◌≡◌}
use mathlib.Core.List.{List, []}
use Prim.Native.Nat.{ℕ, ◌+◌, ◌*◌, ◌≤◌, ◌<◌}
use native.Mathlib.Omega.{arith}
use borrow.Author.Tests.{lt-ltb, le-ltb}
use lib.ListN.{drop_of_length-le}
use Rattle.runfile.specs.RunFile.{read_events}
use Rattle.runfile.proofs.Reading.{in_eights}
use Rattle.reader.specs.Events.{event_length, event_count, event_at, place_after}

module _ (s : List ℕ) (n : ℕ) where
  pub no_event : event_count s ≤ n → event_at s n ≡ []
  unfolding event_at
  no_event h = rw (drop_of_length-le (read_events s) {i = n * event_length} (omega (arith, in_eights s)))

  pub stays : event_count s ≤ n → place_after s n ≡ n
  unfolding place_after
  stays h = rw (le-ltb n (event_count s) h)

  pub moves : n < event_count s → place_after s n ≡ n + 1
  unfolding place_after
  moves h = rw (lt-ltb n (event_count s) h)
