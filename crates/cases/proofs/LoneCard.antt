-- The lone card's steps, by computation.
use mathlib.Core.Path.{refl}
use Rattle.cases.specs.{LoneCard.LoneCard}
use Rattle.cases.proofs.Names.{the_guest, the_lone_card, the_pair, the_trials}

pub lone_card : LoneCard
unfolding the_guest the_pair the_lone_card the_trials
lone_card =
    record {
      reaches = refl;
      hidden = refl;
      nothing = refl;
      complete = refl;
      early = refl;
      unknown = refl;
      twice = refl;
      told = refl;
      unreached = refl;
      with_data = refl;
      status3 = refl;
      uncertain = refl;
    }
