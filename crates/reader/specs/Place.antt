-- "a reader over the run file that remembers its place" (01)
use Rattle.std.specs.Prelude.{ℕ, List}
use Rattle.std.specs.Borrow.{Bor}
use Rattle.reader.specs.declared.Reader.{Reader}
use Rattle.reader.specs.Events.{event_at, place_after}

-- a reader over a file, at a place
abbrev pub reader_at : Bor (List ℕ) → ℕ → Reader
reader_at file n = record { file = file; at = n }

-- the event that it stands at
abbrev pub stands_at : Reader → List ℕ
stands_at r = event_at r.file.now r.at

-- the same reader, once it has handed out that event
abbrev pub moved_on : Reader → Reader
moved_on r = reader_at r.file (place_after r.file.now r.at)
