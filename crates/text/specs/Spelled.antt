-- What spelling leaves: the one relation by which texts are put together.
use Rattle.std.specs.Prelude.{◌≡◌, List, ℕ, ◌+◌, min, max, length}
use Rattle.words.specs.Wrote.{Wrote}

-- e is the text t with the bytes bs spelled from the place `at` on, and r is the place behind them. Bytes that have no place in the text are
-- not stored, and r is then its end; nothing is ever spelled at a place behind the end, and such a place stays.
pub record Spelled (t : List ℕ) (at : ℕ) (bs e : List ℕ) (r : ℕ) : Type 0 where
  pub wrote : Wrote t at bs e
  pub behind : r ≡ max at (min (at + length bs) (length t))
