-- Run files, written and read, read and written; and what a write leaves.
use mathlib.Core.Path.{◌≡◌, refl, sym, ap, ◌∙◌}
use mathlib.Core.Bool.{Bool, true, false}
use mathlib.Core.List.{List, [], ◌++◌, append-nil}
use Prim.Native.Nat.{ℕ, ◌+◌}
use native.Mathlib.Nat.{zero-add}
use native.Mathlib.Omega.{arith}
use borrow.Author.Tests.{eq-eqb, eqb-true, not-false}
use lib.Dec.{eqb}
use lib.ListN.{length, take, drop, length-append, drop_of_length-le}
use lib.Seq.{take_at, drop_at, take_all}
use Rattle.slots.proofs.Tests.{and_true, both}
use Rattle.words.specs.Numbers.{Bytes, at32}
use Rattle.forms.proofs.Form.{AnyThing}
use Rattle.forms.proofs.Part.{part, part_join}
use Rattle.forms.specs.Stored.{any}
use Rattle.forms.specs.Lent.{refusing, where_taken}
use Rattle.forms.proofs.Lawful.{Lawful, byte_lawful, half_lawful, word_lawful, always_lawful, anything, ◌and_then◌, stored_as_lawful}
use Rattle.rules.proofs.Answers.{is-refused, taken-zero, zero-taken}
use Rattle.rules.specs.declared.Refusal.{Refusal}
use Rattle.runfile.specs.RunFile.{run_form, entry_count, program_tag, events_tag, bodies, fine_lengths, Entry, entry_of, entry, fields, Header, header_of, said_by, fields_of, fine_fields, header}
use Rattle.runfile.specs.RunFile.{is_run_file, read_answer, read_limit, read_program, read_events, run_bytes, run_length, write_answer, written}
use Rattle.runfile.specs.RoundTrips.{Reads, ReadsWhatWasWritten, WritesWhatWasRead, RefusedWrite, KeepsTheRest}
use Rattle.runfile.proofs.Header.{says-fine}
use Rattle.runfile.proofs.Reading.{whole, taken, limit_there, program_there, events_there, program-size, events-size}
use Rattle.runfile.proofs.Writing.{run_length_lem, room}
use Rattle.rules.specs.Answer.{Answer}
use Rattle.std.specs.Prelude.{Ok, Err}

-- ---- the header

entry_lawful : (tag : ℕ) → Lawful (entry tag) AnyThing
entry_lawful tag = stored_as_lawful (always_lawful word_lawful tag and_then word_lawful and_then word_lawful) _ _ any (λ e h. (search, refl, refl)) (λ t h. refl)

-- its lengths follow the rules
abbrev Fine : Header → Type 0
Fine h = fine_lengths h.program h.events ≡ true

-- an entry, at its offset
placed : (e : Entry) (n : ℕ) → eqb e.offset n ≡ true → entry_of n e.size ≡ e
placed e n h = λ k. entry_of (sym (eqb-true e.offset n h) k) e.size

fields_lawful : Lawful fields AnyThing
fields_lawful =
    anything
    (always_lawful byte_lawful run_form and_then always_lawful byte_lawful entry_count and_then half_lawful and_then entry_lawful program_tag and_then entry_lawful events_tag)
    (λ t. search)

pub header_lawful : Lawful header Fine
header_lawful =
    stored_as_lawful fields_lawful said_by fields_of fine_fields
    (λ h fine. (tt, refl, both fine (both refl (eq-eqb (bodies + h.program) _ refl))))
    (λ t m.
    let p = t.0.1 in
    let e = t.1 in
    let offsets = (and_true (fine_lengths p.size e.size) _ m).1 in
    let at = and_true (eqb p.offset bodies) (eqb e.offset (bodies + p.size)) offsets in
    λ k. ((t.0.0, placed p bodies at.0 k), placed e (bodies + p.size) at.1 k))

-- ---- written and read

module _ (limit : ℕ) (program events : List ℕ) (fine : fine_lengths (length program) (length events) ≡ true) where
  abbrev said : Header
  said = header_of limit (length program) (length events)

  abbrev front : List ℕ
  front = header.bytes said

  abbrev file : List ℕ
  file = run_bytes limit program events

  first : part file 0 bodies ≡ front
  unfolding run_bytes
  first = refl

  says : header.at file 0 ≡ said
  says = header_lawful.form.reads file 0 said fine first

  is_run_file_lem : is_run_file file ≡ true
  unfolding is_run_file
  is_run_file_lem =
      both (header_lawful.passes file 0 said fine first)
      (eq-eqb _ _ (run_length_lem limit program events ∙ ap (λ (h : Header). bodies + h.program + h.events) (sym says)))

  program_body : take (length program) (drop bodies file) ≡ program
  unfolding run_bytes
  program_body = take_at program events (length program) refl

  events_body : take (length events) (drop (bodies + length program) file) ≡ events
  unfolding run_bytes
  events_body = rw (drop_at (front ++ program) events (bodies + length program) (length-append front program)) (take_all (length events) events (omega arith))

  reads-file : Reads file limit program events
  reads-file = record {
    answers = taken-zero (taken file is_run_file_lem);
    reads-limit = limit_there file is_run_file_lem ∙ ap (λ (h : Header). h.limit) says;
    reads-program = program_there file is_run_file_lem ∙ ap (λ (h : Header). take h.program (drop bodies file)) says ∙ program_body;
    reads-events = events_there file is_run_file_lem ∙ ap (λ (h : Header). take h.events (drop (bodies + h.program) file)) says ∙ events_body;
  }

-- what was taken was not refused
passed : (x : Bool) (why : Refusal) (a : Answer) → refusing x why a ≡ Ok tt → (x ≡ false) × (a ≡ Ok tt)
unfolding refusing
passed false why a e = (refl, e)
passed true why a e = let z : ◌≡◌ {A = ℕ} 0 1 = cc in absurd (omega arith)

pub reads_what_was_written : ReadsWhatWasWritten
unfolding write_answer written where_taken
reads_what_was_written limit program events b z =
    let e = zero-taken (write_answer program events b) z in
    let fine = not-false (fine_lengths (length program) (length events)) (passed _ _ _ e).0 in
    let front = take_at (run_bytes limit program events) (drop (run_length program events) b) (run_length program events) (run_length_lem limit program events) in
    rw (e, front) (reads-file limit program events fine)

-- ---- read and written

accepted : (s : List ℕ) → read_answer s ≡ Ok tt → is_run_file s ≡ true
unfolding read_answer
accepted s e = not-false (is_run_file s) (passed _ _ _ e).0

module _ (s : List ℕ) (h : is_run_file s ≡ true) where
  lengths_fine : fine_lengths (length (read_program s)) (length (read_events s)) ≡ true
  lengths_fine = rw (program-size s h, events-size s h) (says-fine s (whole s h).fine)

  -- the three parts of the file, one behind the other
  parts : Bytes s → header.bytes (header.at s 0) ++ part s bodies (at32 s 12) ++ part s (bodies + at32 s 12) (at32 s 24) ≡ s
  parts bytes =
      let w = whole s h in
      let p = at32 s 12 in
      let e = at32 s 24 in
      let two : part s 0 bodies ++ part s bodies p ≡ part s 0 (bodies + p) = sym (part_join s 0 bodies p) in
      let three : part s 0 (bodies + p) ++ part s (bodies + p) e ≡ part s 0 (bodies + p + e) = rw (zero-add) at (sym (part_join s 0 (bodies + p) e)) in
      ap (λ (xs : List ℕ). xs ++ part s bodies p ++ part s (bodies + p) e) (header_lawful.form.keeps s 0 bytes (omega arith) w.fine)
      ∙ ap (λ (xs : List ℕ). xs ++ part s (bodies + p) e) two
      ∙ three
      ∙ take_all (bodies + p + e) s (omega arith)

  same : Bytes s → run_bytes (read_limit s) (read_program s) (read_events s) ≡ s
  unfolding run_bytes
  same bytes = (λ k. header.bytes (header_of (limit_there s h k) (program-size s h k) (events-size s h k)) ++ program_there s h k ++ events_there s h k) ∙ parts bytes

  all_there : run_length (read_program s) (read_events s) ≡ length s
  all_there = let w = whole s h in omega (arith, program-size s h, events-size s h)

pub writes_what_was_read : WritesWhatWasRead
unfolding written where_taken
writes_what_was_read s b bytes z l r e w =
    let h = accepted s (zero-taken (read_answer s) z) in
    let n = run_length (read_program s) (read_events s) in
    let answer = room (read_program s) (read_events s) b (lengths_fine s h) (omega (arith, all_there s h)) in
    let nothing : drop n b ≡ [] = drop_of_length-le b {i = n} (omega (arith, all_there s h)) in
    (taken-zero (w.answers ∙ answer), w.leaves ∙ rw (answer, nothing, append-nil) (same s h bytes))

-- ---- what is left in a buffer

pub refused-write : RefusedWrite
unfolding written where_taken
refused-write limit program events b r e w q = w.leaves ∙ rw (← w.answers, (is-refused r q).1)

rest : (n : ℕ) (xs b : List ℕ) → length xs ≡ n → (a : Answer) → drop n (where_taken a (xs ++ drop n b) b) ≡ drop n b
unfolding where_taken
rest n xs b l (Ok tt) = drop_at xs (drop n b) n l
rest n xs b l (Err why) = refl

pub keeps_the_rest : KeepsTheRest
unfolding written
keeps_the_rest limit program events b r e w = rw w.leaves (rest (run_length program events) (run_bytes limit program events) b (run_length_lem limit program events) (write_answer program events b))
