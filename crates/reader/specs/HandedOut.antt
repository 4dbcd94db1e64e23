-- What is promised of the events that a reader hands out: `next` is called again and again, from the first place of a run file on. All is
-- stated over the definitions that the contracts of `open` and `next` cite.
use Rattle.std.specs.Prelude.{◌≡◌, List, [], ℕ, zero, suc, ◌≤◌, ◌<◌, length}
use Rattle.std.specs.Borrow.{Bor}
use Rattle.words.specs.Arrays.{each, tab}
use Rattle.runfile.specs.RunFile.{read_events}
use Rattle.reader.specs.declared.Reader.{Reader}
use Rattle.reader.specs.Events.{event_length, event_count, event_at}
use Rattle.reader.specs.Place.{reader_at, stands_at, moved_on}

-- a reader that has been asked for n events: what `next` leaves, n times
unfoldable pub asked : ℕ → Reader → Reader
asked zero r = r
asked (suc n) r = moved_on (asked n r)

-- what it hands out then, where it was opened at the first place
abbrev pub handed_out : Bor (List ℕ) → ℕ → List ℕ
handed_out file n = stands_at (asked n (reader_at file 0))

-- One behind the other, as many as there are events, they are all the events of the run file.
abbrev pub HandsOutAll : Type 0
HandsOutAll = (file : Bor (List ℕ)) → each (λ e. e) (tab (handed_out file) (event_count file.now)) ≡ read_events file.now

-- Each of them is whole, and the one whose turn it is.
abbrev pub HandsOutWhole : Type 0
HandsOutWhole = (file : Bor (List ℕ)) (n : ℕ) → n < event_count file.now → (length (handed_out file n) ≡ event_length) × (handed_out file n ≡ event_at file.now n)

-- After that nothing is handed out, however often it is asked for, and the reader stays.
abbrev pub StaysAtTheEnd : Type 0
StaysAtTheEnd = (file : Bor (List ℕ)) (n : ℕ) → event_count file.now ≤ n → (handed_out file n ≡ []) × (moved_on (asked n (reader_at file 0)) ≡ asked n (reader_at file 0))
