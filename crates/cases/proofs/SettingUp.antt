-- Set-up, by computation.
use mathlib.Core.Path.{refl}
use Rattle.cases.specs.{SettingUp.SettingUp}
use Rattle.cases.proofs.Names.{the_guest, the_pair, the_trials}

pub setting_up : SettingUp
unfolding the_guest the_pair the_trials
setting_up =
    record {
      limit0 = refl;
      limit4097 = refl;
      limit1 = refl;
      limit4096 = refl;
      empty = refl;
      not_in_fours = refl;
      too_many = refl;
      nops = refl;
      bad = refl;
      jump = refl;
      epoch_p = refl;
      epoch_b = refl;
      role_b = refl;
    }
