-- Pairs that no run reaches, by computation.
use mathlib.Core.Path.{refl}
use Rattle.cases.specs.{Unreached.Unreached}
use Rattle.cases.proofs.Names.{the_guest, the_pair, the_trials}

pub unreached : Unreached
unfolding the_guest the_pair the_trials
unreached =
    record {
      first_val = refl;
      no_val = refl;
      promoted_val = refl;
      follows = refl;
      fails = refl;
      promoted = refl;
      buffered = refl;
      begins = refl;
    }
