-- The events of a run file, one after the other. A place is the number of events that stand before it.
use Rattle.std.specs.Prelude.{ℕ, ◌+◌, ◌*◌, ◌/◌, List, ltb, length, take, drop}
use Rattle.slots.specs.Slots.{pick}
use Rattle.runfile.specs.RunFile.{read_events}

-- "Events: 8 bytes"
abbrev pub event_length : ℕ
event_length = 8

-- how many there are
abbrev pub event_count : List ℕ → ℕ
event_count s = length (read_events s) / event_length

-- the event at place n; no bytes where there is none
unfoldable pub event_at : List ℕ → ℕ → List ℕ
event_at s n = take event_length (drop (n * event_length) (read_events s))

-- the place behind it; at the end, the same place
unfoldable pub place_after : List ℕ → ℕ → ℕ
place_after s n = pick (ltb n (event_count s)) (n + 1) n
