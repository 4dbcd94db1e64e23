-- What comes back: taken, or the refusal.
use Rattle.std.specs.Prelude.{Result}
use Rattle.rules.specs.declared.Refusal.{Refusal}

abbrev pub Answer : Type 0
Answer = Result (Unit {0}) Refusal
