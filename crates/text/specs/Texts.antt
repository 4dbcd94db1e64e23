-- What a method leaves of a text.
use Rattle.std.specs.Prelude.{◌≡◌, List, ℕ}
use Rattle.text.specs.Spelled.{Spelled}
use Rattle.text.specs.declared.Text.{Text}

-- e is the text t with the bytes bs spelled behind what is spelled of it: the same lent bytes, with those written there
pub record Puts (t : Text) (bs : List ℕ) (e : Text) : Type 0 where
  pub same : e.bytes.ghost_name ≡ t.bytes.ghost_name
  pub spelled : Spelled t.bytes.now t.at bs e.bytes.now e.at
