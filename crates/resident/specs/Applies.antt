-- What `apply` gives and leaves, of the program, the pair that came and the event: `stepped`'s answer, entry and pair.
use Rattle.std.specs.Prelude.{◌≡◌, List, ℕ}
use Rattle.rules.specs.declared.Pair.{Pair}
use Rattle.rules.specs.Bytes.{stepped}
use Rattle.resident.specs.declared.Applied.{Applied}

pub record Applies (program : List ℕ) (came : Pair) (event : List ℕ) (r : Applied) (left : Pair) : Type 0 where
  pub answer : r.answer ≡ (stepped program came event).answer
  pub shown : r.shown ≡ (stepped program came event).shown
  pub pair : left ≡ (stepped program came event).pair
