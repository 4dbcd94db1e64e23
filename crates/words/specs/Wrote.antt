-- What a writer leaves: the one relation by which writes are put together.
use Rattle.std.specs.Prelude.{◌≡◌, ℕ, List}
use Rattle.std.proofs.lemmas.List.Edits.{sets}

-- e is b with the bytes xs stored from place i on; those that have no place in b are not stored
pub record Wrote (b : List ℕ) (i : ℕ) (xs e : List ℕ) : Type 0 where
  pub is : e ≡ sets b i xs
