-- The guest, by computation.
use mathlib.Core.Path.{refl}
use Rattle.cases.specs.Guest.{Arithmetic, Boundaries, Clock, Control, GuestCases, IllFormed, Starting, Taking, WellFormed, Wholes}
use Rattle.cases.proofs.Names.{the_guest, the_trials}

pub arithmetic : Arithmetic
unfolding the_guest the_trials
arithmetic =
    record {
      division = refl;
      wraps = refl;
      added = refl;
      below = refl;
      rounded = refl;
      set = refl;
      place = refl;
      stored = refl;
    }

pub control : Control
unfolding the_guest the_trials
control =
    record {
      jumps = refl;
      stays = refl;
      moves = refl;
      around = refl;
      under = refl;
      full = refl;
      thirty_nine = refl;
      forty = refl;
    }

pub clock : Clock
unfolding the_guest the_trials
clock =
    record {
      reading = refl;
      counted = refl;
      deadline = refl;
      armed = refl;
      arms = refl;
      unarmed_deadline = refl;
      untaken = refl;
    }

pub taking : Taking
unfolding the_guest the_trials
taking =
    record {
      apart = refl;
      all = refl;
      first = refl;
      oldest = refl;
      empty = refl;
    }

pub starting : Starting
unfolding the_guest the_trials
starting =
    record {
      shown = refl;
      number = refl;
      table = refl;
      last_number = refl;
      full = refl;
      full_shown = refl;
      full_table = refl;
      timer_beside = refl;
      last = refl;
      last_table = refl;
    }

pub wholes : Wholes
unfolding the_guest the_trials
wholes =
    record {
      zeros = refl;
      nop = refl;
      set = refl;
      store = refl;
      take = refl;
      time = refl;
      start = refl;
      timer = refl;
      boundary = refl;
      readers = refl;
    }

pub boundaries : Boundaries
unfolding the_guest the_trials
boundaries =
    record {
      order = refl;
      emptied = refl;
      disarmed = refl;
      cleared = refl;
      untaken = refl;
      still_armed = refl;
      still_due = refl;
      untaken_done = refl;
      untaken_times = refl;
      untaken_table = refl;
      certain = refl;
      left = refl;
      early = refl;
      late = refl;
      unarmed = refl;
      arrival = refl;
      dropped = refl;
    }

pub well_formed : WellFormed
unfolding the_guest the_trials
well_formed =
    record {
      nop = refl;
      set = refl;
      add = refl;
      sub = refl;
      div = refl;
      load = refl;
      store = refl;
      jump = refl;
      high = refl;
      take = refl;
      add_sevens = refl;
      sub_sevens = refl;
      div_sevens = refl;
      take_sevens = refl;
      load_sevens = refl;
      store_sevens = refl;
      start_sevens = refl;
      time = refl;
      start = refl;
      timer = refl;
    }

pub ill_formed : IllFormed
unfolding the_guest the_trials
ill_formed =
    record {
      code9 = refl;
      code15 = refl;
      code19 = refl;
      code255 = refl;
      set = refl;
      add = refl;
      sub = refl;
      div = refl;
      load = refl;
      store = refl;
      jump = refl;
      take = refl;
      time = refl;
      start = refl;
      timer = refl;
      device = refl;
      target = refl;
      high_target = refl;
      nop_unused = refl;
      load_unused = refl;
      store_unused = refl;
      time_unused = refl;
      timer_unused = refl;
    }

pub guest_cases : GuestCases
guest_cases = record { arithmetic = arithmetic; control = control; clock = clock; taking = taking; starting = starting; wholes = wholes; boundaries = boundaries; well_formed = well_formed; ill_formed = ill_formed }
