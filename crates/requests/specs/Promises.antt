-- What is promised of an answer's line, over the definition that the contract of `answer` cites.
use Rattle.std.specs.Prelude.{List, ◌≡◌, ℕ, ◌<◌, ◌≤◌, length, take}
use Rattle.requests.specs.Answers.{Answered, Answers}

-- In a text that is longer than the line, the bytes that `answer` counts are the line, whole.
abbrev pub WholeLine : Type 0
WholeLine = (w : Answered) (t b c e : List ℕ) (r : ℕ) → Answers w t b c e r → length w.line < length t → take r e ≡ w.line

-- In any other it counts none: what is written of such a text is nothing.
abbrev pub NoPart : Type 0
NoPart = (w : Answered) (t b c e : List ℕ) (r : ℕ) → Answers w t b c e r → length t ≤ length w.line → r ≡ 0
