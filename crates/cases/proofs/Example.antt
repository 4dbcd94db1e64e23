-- "Checked by example", by computation.
use mathlib.Core.Path.{refl}
use Rattle.cases.specs.{Example.CheckedByExample}
use Rattle.cases.proofs.Names.{the_guest, the_pair, the_trials}

pub checked_by_example : CheckedByExample
unfolding the_guest the_pair the_trials
checked_by_example =
    record {
      shows_a = refl;
      uncertain_a = refl;
      shows_b = refl;
      completed_c = refl;
      detect_early = refl;
      third_step = refl;
      unknown = refl;
      twice = refl;
      waits = refl;
      goes = refl;
      sums = refl;
    }
