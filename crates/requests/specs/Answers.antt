-- A request's answer: docs/PROBE.md, "The lines", by the kind.
use Rattle.std.specs.Prelude.{List, ◌≡◌, ℕ, eqb, ltb, length}
use Rattle.image.specs.Stores.{retire_leaves}
use Rattle.rules.specs.Program.{under}
use Rattle.runfile.specs.RunFile.{written}
use Rattle.slots.specs.Slots.{pick}
use Rattle.text.specs.Texts.{Puts}
use Rattle.text.specs.declared.Text.{Text}
use Rattle.words.specs.Wrote.{Wrote}
use Rattle.requests.specs.Lines.{bad_line, load_line, read_line, retire_line, save_line, saved_into, step_line, write_line}

-- what comes of a request: its line, and what the parts B and C then hold
pub record Answered : Type 0 where
  pub line : List ℕ
  pub b : List ℕ
  pub c : List ℕ

abbrev pub said : List ℕ → List ℕ → List ℕ → Answered
said line b c = record { line = line; b = b; c = c }

-- kind, L, and the parts A, B and C; "A kind that is not listed" is bad
unfoldable pub answered : ℕ → ℕ → List ℕ → List ℕ → List ℕ → Answered
answered kind l a b c =
    pick (eqb kind 1) (said (load_line a) b c)
    (pick (eqb kind 2) (said (step_line a b c) b c)
    (pick (eqb kind 3) (said (retire_line a l (length b)) (retire_leaves (under a l) (length b)) c)
    (pick (eqb kind 4) (said (write_line l a b c) b (written l a b c))
    (pick (eqb kind 5) (said (read_line a) b c)
    (pick (eqb kind 6) (said (save_line a c) b (saved_into a c))
    (said bad_line b c))))))

-- the line is put into the text t, which is then e; and this is what stands in B and C
pub record Spells (w : Answered) (t : Text) (b c : List ℕ) (e : Text) : Type 0 where
  pub puts : Puts t w.line e
  pub leaves_b : b ≡ w.b
  pub leaves_c : c ≡ w.c

-- how many bytes of a text of n bytes are the line, whole: none, where the text is no longer than the line
unfoldable pub whole_in : ℕ → List ℕ → ℕ
whole_in n line = pick (ltb (length line) n) (length line) 0

-- the text t is then e, the line at its front; r bytes of it are the line; and this is what stands in B and C
pub record Answers (w : Answered) (t b c e : List ℕ) (r : ℕ) : Type 0 where
  pub wrote : Wrote t 0 w.line e
  pub counts : r ≡ whole_in (length t) w.line
  pub leaves_b : b ≡ w.b
  pub leaves_c : c ≡ w.c
