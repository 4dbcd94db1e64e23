-- Set-up, and the outcomes.
use Rattle.std.specs.Prelude.{false, [], ℕ}
use Rattle.rules.specs.Guest.{fresh}
use Rattle.rules.specs.declared.EpochNo.{EpochNo}
use Rattle.rules.specs.declared.Outcome.{Outcome}
use Rattle.rules.specs.declared.Pair.{Pair}
use Rattle.rules.specs.declared.Phase.TheVariants.{Running}
use Rattle.rules.specs.declared.Role.TheVariants.{Following}
use Rattle.rules.specs.declared.RecordEntry.{RecordEntry}
use Rattle.std.specs.Prelude.{Option, Ok}

-- a pair in which nothing has happened: P in epoch e, B in epoch 0, following; under N and L
abbrev pub blank : EpochNo → ℕ → ℕ → Pair
blank e n l =
    record {
      p = record { guest = fresh; epoch = e; buffer = [] };
      phase = Running;
      b = record { guest = fresh; epoch = record { 0 = 0 }; buffer = [] };
      role = Following;
      detected = false;
      limit = l;
      count = n;
      link = [];
      acks = 0;
      inbox = [];
    }

-- taken, with the pair in memory as it is next
abbrev pub done : Pair → Option RecordEntry → Outcome
done s o = record { answer = Ok tt; pair = s; shown = o }
