-- Run files: 01, "Stored forms". Which byte of a header is which field is said once, in `header`.
use Rattle.std.specs.Prelude.{◌≡◌, Bool, not, ◌&&◌, List, [], ◌++◌, ℕ, ◌+◌, ◌%◌, eqb, leb, ltb, length, take, drop}
use Rattle.forms.specs.Stored.{Stored, byte, half, word, always, ◌then◌, stored_as, any}
use Rattle.forms.specs.Lent.{refusing, where_taken}
use Rattle.rules.specs.declared.Refusal.TheVariants.{BadFile, TooShort}
use Rattle.rules.specs.Answer.{Answer}
use Rattle.std.specs.Prelude.{Ok}

-- ---- the header

-- "form (one byte, 1)"
abbrev pub run_form : ℕ
run_form = 1

-- "entry count (one byte, 2)"
abbrev pub entry_count : ℕ
entry_count = 2

-- "tag 1 (program) first, then 2 (events)"
abbrev pub program_tag : ℕ
program_tag = 1

abbrev pub events_tag : ℕ
events_tag = 2

-- "the bodies, back to back from byte 28"
abbrev pub bodies : ℕ
bodies = 28

-- "entries of tag, offset, length (4 bytes each)"; the tag says nothing, it is known for each of the two
pub record Entry : Type 0 where
  pub offset : ℕ
  pub size : ℕ

abbrev pub entry_of : ℕ → ℕ → Entry
entry_of offset size = record { offset = offset; size = size }

-- where they stand
abbrev pub entry : ℕ → Stored Entry
entry tag = stored_as (always word tag then word then word) (λ t. entry_of t.0.1 t.1) (λ e. ((tt, e.offset), e.size)) any

-- "form .., entry count .., L (2 bytes); contents: two entries .., tag 1 (program) first, then 2 (events)"
abbrev pub Fields : Type 0
Fields = (((Unit {0} × Unit {0}) × ℕ) × Entry) × Entry

-- where each stands
abbrev pub fields : Stored Fields
fields = always byte run_form then always byte entry_count then half then entry program_tag then entry events_tag

-- what they say: L, and how many bytes the program and the events have
pub record Header : Type 0 where
  pub limit : ℕ
  pub program : ℕ
  pub events : ℕ

-- a header of these three
abbrev pub header_of : ℕ → ℕ → ℕ → Header
header_of limit program events = record { limit = limit; program = program; events = events }

-- what the fields say
abbrev pub said_by : Fields → Header
said_by t = header_of t.0.0.1 t.0.1.size t.1.size

-- "then the bodies, back to back from byte 28": that is where the entries say they are
abbrev pub fields_of : Header → Fields
fields_of h = ((((tt, tt), h.limit), entry_of bodies h.program), entry_of (bodies + h.program) h.events)

-- "Program 4 to 4,096 bytes in fours, events 0 to 32,768 in eights"
unfoldable pub fine_program : ℕ → Bool
fine_program n = leb 4 n && leb n 4096 && eqb (n % 4) 0

-- events of this many bytes
unfoldable pub fine_events : ℕ → Bool
fine_events n = leb n 32768 && eqb (n % 8) 0

-- both
unfoldable pub fine_lengths : ℕ → ℕ → Bool
fine_lengths program events = fine_program program && fine_events events

-- the lengths follow the rules, and the bodies are said to be where they are
abbrev pub fine_fields : Fields → Bool
fine_fields t = fine_lengths t.0.1.size t.1.size && (eqb t.0.1.offset bodies && eqb t.1.offset (bodies + t.0.1.size))

-- the header as it is stored
abbrev pub header : Stored Header
header = stored_as fields said_by fields_of fine_fields

-- ---- read

-- the header is that of a run file, the bodies are there, "nothing after"
unfoldable pub is_run_file : List ℕ → Bool
is_run_file s = let h = header.at s 0 in header.fine s 0 && eqb (length s) (bodies + h.program + h.events)

-- 10, "bad run file"
unfoldable pub read_answer : List ℕ → Answer
read_answer s = refusing (not (is_run_file s)) BadFile (Ok tt)

-- L, the program and the events of a run file; "where nothing is made, zeros or empty parts stand in its place"
unfoldable pub read_limit : List ℕ → ℕ
read_limit s = where_taken (read_answer s) (header.at s 0).limit 0

-- the program
unfoldable pub read_program : List ℕ → List ℕ
read_program s = where_taken (read_answer s) (take (header.at s 0).program (drop bodies s)) []

-- the events
unfoldable pub read_events : List ℕ → List ℕ
read_events s = let h = header.at s 0 in where_taken (read_answer s) (take h.events (drop (bodies + h.program) s)) []

-- ---- written

-- the bytes of a run file, and how many they are
unfoldable pub run_bytes : ℕ → List ℕ → List ℕ → List ℕ
run_bytes limit program events = header.bytes (header_of limit (length program) (length events)) ++ program ++ events

-- how many bytes it has
abbrev pub run_length : List ℕ → List ℕ → ℕ
run_length program events = bodies + length program + length events

-- "Writing one: 10 for a length that breaks these rules, then 9"
unfoldable pub write_answer : List ℕ → List ℕ → List ℕ → Answer
write_answer program events b =
    refusing (not (fine_lengths (length program) (length events))) BadFile
    (refusing (ltb (length b) (run_length program events)) TooShort
    (Ok tt))

-- "writing a run file, into a longer buffer keeps the rest of it"; refused, it writes nothing
unfoldable pub written : ℕ → List ℕ → List ℕ → List ℕ → List ℕ
written limit program events b = where_taken (write_answer program events b) (run_bytes limit program events ++ drop (run_length program events) b) b

-- what writing answers, and what it leaves in the buffer b
pub record Writes (limit : ℕ) (program events b : List ℕ) (answer : Answer) (e : List ℕ) : Type 0 where
  pub answers : answer ≡ write_answer program events b
  pub leaves : e ≡ written limit program events b
