-- The lines that answer requests, as docs/PROBE.md has them: "ANSWER is the number of 01, 0 or a refusal. HEX is two lower-case digits a
-- byte, and a single `-` for no bytes. What stands in brackets is there only for the answer 0."
use Rattle.std.specs.Prelude.{List, [], ◌∷◌, ◌++◌, ℕ}
use Rattle.forms.specs.Lent.{where_taken}
use Rattle.image.specs.Stores.{loaded, retire_answer, retire_leaves, save_answer, save_leaves, zeros}
use Rattle.layout.specs.Image.{image_length}
use Rattle.rules.specs.Bytes.{stepped}
use Rattle.rules.specs.PairSlots.{answer_number}
use Rattle.rules.specs.Program.{under}
use Rattle.rules.specs.declared.Pair.{Pair}
use Rattle.runfile.specs.RunFile.{read_answer, read_events, read_limit, read_program, write_answer, written}
use Rattle.text.specs.Lines.{entry_text, hex_field, line_end, number_field}
use Rattle.text.specs.Numbers.{decimal}
use Rattle.rules.specs.declared.RecordEntry.{RecordEntry}
use Rattle.rules.specs.Answer.{Answer}
use Rattle.std.specs.Prelude.{Some, None, Option}

-- ---- fields

-- `KIND ANSWER`
unfoldable pub front : ℕ → Answer → List ℕ
front kind answer = decimal kind ++ number_field (answer_number answer)

-- "[..]": "there only for the answer 0"
unfoldable pub bracketed : Answer → List ℕ → List ℕ
bracketed answer fields = where_taken answer fields []

-- "HEX of the pair, saved": into a buffer of an image's length
unfoldable pub saved_field : Pair → List ℕ
saved_field s = hex_field (save_leaves s (zeros image_length))

-- "its record entry in decimal (0 0 0 where there is none)"
unfoldable pub shown_field : Option RecordEntry → List ℕ
shown_field None = 32 ∷ entry_text 0 0 0
shown_field (Some e) = 32 ∷ entry_text e.op.0 e.device e.word

-- `L HEX-of-the-program HEX-of-the-events`
unfoldable pub parts_fields : List ℕ → List ℕ
parts_fields file = number_field (read_limit file) ++ hex_field (read_program file) ++ hex_field (read_events file)

-- ---- lines

-- `KIND ANSWER`, "alone"
unfoldable pub bare_line : ℕ → Answer → List ℕ
bare_line kind answer = front kind answer ++ line_end

-- `KIND ANSWER HEX`
unfoldable pub bytes_line : ℕ → Answer → List ℕ → List ℕ
bytes_line kind answer bytes = front kind answer ++ hex_field bytes ++ line_end

-- `1 ANSWER [HEX of the loaded pair saved again]`
unfoldable pub load_line : List ℕ → List ℕ
load_line image =
    let o = loaded image in
    front 1 o.answer ++ bracketed o.answer (saved_field o.pair) ++ line_end

-- `2 ANSWER OPERATION DEVICE WORD HEX`, of a pair that was loaded: "the event is applied, and the line has its answer, its record entry .. and
-- the pair then held, saved"
unfoldable pub applied_line : List ℕ → Pair → List ℕ → List ℕ
applied_line program s event =
    let o = stepped program s event in
    front 2 o.answer ++ shown_field o.shown ++ saved_field o.pair ++ line_end

-- "the image is loaded; where that is refused the line is `2 ANSWER` alone"
unfoldable pub step_line : List ℕ → List ℕ → List ℕ → List ℕ
step_line image program event =
    let o = loaded image in
    where_taken o.answer (applied_line program o.pair event) (bare_line 2 o.answer)

-- `3 ANSWER HEX of the store`, of a store of n bytes
unfoldable pub retire_line : List ℕ → ℕ → ℕ → List ℕ
retire_line program l n = bytes_line 3 (retire_answer (under program l) n) (retire_leaves (under program l) n)

-- `4 ANSWER HEX of the buffer`
unfoldable pub write_line : ℕ → List ℕ → List ℕ → List ℕ → List ℕ
write_line l program events buf = bytes_line 4 (write_answer program events buf) (written l program events buf)

-- `5 ANSWER [L HEX-of-the-program HEX-of-the-events]`
unfoldable pub read_line : List ℕ → List ℕ
read_line file = front 5 (read_answer file) ++ bracketed (read_answer file) (parts_fields file) ++ line_end

-- `6 ANSWER HEX of the buffer`: "the image is loaded, and where that is refused the line is `6 ANSWER` alone; else the pair is saved into the
-- buffer"
unfoldable pub save_line : List ℕ → List ℕ → List ℕ
save_line image buf =
    let o = loaded image in
    where_taken o.answer (bytes_line 6 (save_answer o.pair buf) (save_leaves o.pair buf)) (bare_line 6 o.answer)

-- what the buffer then holds
unfoldable pub saved_into : List ℕ → List ℕ → List ℕ
saved_into image buf = let o = loaded image in where_taken o.answer (save_leaves o.pair buf) buf

-- "the line `bad`"
unfoldable pub bad_line : List ℕ
bad_line = 98 ∷ 97 ∷ 100 ∷ line_end
