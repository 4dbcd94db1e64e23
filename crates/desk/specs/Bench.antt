-- What the bench does and what it prints: 01, "The bench program reads a run file on standard input, stops at the first refusal, prints a
-- line per record entry (operation, device, word, in decimal) and `end A C`: the refusal or 0, and the events taken."
use Rattle.std.specs.Prelude.{List, [], ◌∷◌, ◌++◌, ℕ, zero, suc, ◌+◌, ◌*◌, ◌≤◌, length}
use Rattle.std.specs.Borrow.{Bor, MutBor}
use Rattle.reader.specs.Events.{event_at, event_count}
use Rattle.rules.specs.Bytes.{stepped}
use Rattle.rules.specs.PairSlots.{answer_number, made}
use Rattle.rules.specs.Program.{under}
use Rattle.rules.specs.declared.Pair.{Pair}
use Rattle.rules.specs.declared.RecordEntry.{RecordEntry}
use Rattle.runfile.specs.RunFile.{read_answer, read_limit, read_program}
use Rattle.text.specs.Lines.{end_length, end_line, entry_length, entry_line}
use Rattle.text.specs.Spelled.{Spelled}
use Rattle.text.specs.Texts.{Puts}
use Rattle.text.specs.declared.Text.{Text}
use Rattle.words.specs.Arrays.{each}
use Rattle.rules.specs.Answer.{Answer}
use Rattle.std.specs.Prelude.{Some, None, Option, Ok, Err}

-- ---- what the bench does

-- a run: what the devices were shown, the answer that ended it, and the events taken
pub record Run : Type 0 where
  pub entries : List RecordEntry
  pub answer : Answer
  pub taken : ℕ

-- it stops with this answer, and n events taken
unfoldable pub stopped : Answer → ℕ → Run
stopped a n = record { entries = []; answer = a; taken = n }

-- where the answer is 0 it goes on; else it stops here, with n events taken
unfoldable pub goes_on : Answer → ℕ → Run → Run
goes_on (Ok tt) n later = later
goes_on (Err why) n later = stopped (Err why) n

-- this is shown first
unfoldable pub shows : Option RecordEntry → Run → Run
shows None later = later
shows (Some e) later = record { entries = e ∷ later.entries; answer = later.answer; taken = later.taken }

-- the next `left` events of a run file, from place n on, on the pair s
unfoldable pub takes : List ℕ → Pair → ℕ → ℕ → Run
takes file s n zero = stopped (Ok tt) n
takes file s n (suc left) =
    let o = stepped (read_program file) s (event_at file n) in
    goes_on o.answer n (shows o.shown (takes file o.pair (n + 1) left))

-- "a bad program or L only `end 8 0`"
unfoldable pub bench_start : List ℕ → Run
bench_start file =
    let o = made (under (read_program file) (read_limit file)) in
    goes_on o.answer 0 (takes file o.pair 0 (event_count file))

-- "A bad run file gives only `end 10 0`"
unfoldable pub bench_run : List ℕ → Run
bench_run file = goes_on (read_answer file) 0 (bench_start file)

-- ---- what it prints

-- "a line per record entry (operation, device, word, in decimal)"
unfoldable pub line_of : RecordEntry → List ℕ
line_of e = entry_line e.op.0 e.device e.word

-- the line of what one event shows; none, where it shows nothing
unfoldable pub shown_line : Option RecordEntry → List ℕ
shown_line None = []
shown_line (Some e) = line_of e

-- "and `end A C`"
unfoldable pub lines : Run → List ℕ
lines r = each line_of r.entries ++ end_line (answer_number r.answer) r.taken

-- every byte that is printed of a run file
unfoldable pub printed : List ℕ → List ℕ
printed file = lines (bench_run file)

-- ---- where it stands

-- "events 0 to 32,768 in eights": 8 bytes each
abbrev pub most_events : ℕ
most_events = 4096

-- a text of this length has room for what is printed of any run file
abbrev pub text_length : ℕ
text_length = most_events * entry_length + end_length

-- the bytes bs are spelled at the front of the text t, which is then e, and r of them stand there: all, where the text has its full length
pub record Prints (bs t e : List ℕ) (r : ℕ) : Type 0 where
  pub spelled : Spelled t 0 bs e r
  pub short : length bs ≤ text_length

-- the lines of a run are put into the text t, which is then e; a text of the full length has room for them
pub record PutsRun (r : Run) (t e : Text) : Type 0 where
  pub puts : Puts t (lines r) e
  pub short : length (lines r) ≤ text_length

-- what takes the events of a run file, from a fresh pair on, puts the lines of that run
abbrev pub TakesEvents : (Bor (List ℕ) → Pair → MutBor Text → Unit {0} → MutBor Text → Type 0) → Type 0
TakesEvents call = (file : Bor (List ℕ)) (fresh : Pair) (t e : MutBor Text) (r : Unit {0}) → call file fresh t r e → PutsRun (takes file.now fresh 0 (event_count file.now)) t.now e.now
