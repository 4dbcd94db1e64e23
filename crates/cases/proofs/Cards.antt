-- The events, by computation.
use mathlib.Core.Path.{refl}
use Rattle.cases.specs.Cards.{Clocks, FirstCard, Inbox, SecondCard, Switching}
use Rattle.cases.proofs.Names.{the_guest, the_pair, the_trials}

pub first_card : FirstCard
unfolding the_guest the_pair the_trials
first_card =
    record {
      time = refl;
      sends_val = refl;
      sends_none = refl;
      epochs = refl;
      inbox = refl;
      second = refl;
      time_early = refl;
      time_again = refl;
      end_early = refl;
      told_link = refl;
      told_waits = refl;
      told_queue = refl;
      link_none = refl;
      ack_none = refl;
      dead_step = refl;
      dead_int = refl;
      dead_time = refl;
      dead_end = refl;
      dead_ack = refl;
      dead_fail = refl;
    }

pub second_card : SecondCard
unfolding the_guest the_pair the_trials
second_card =
    record {
      step_idle = refl;
      end_alone = refl;
      entered = refl;
      stays = refl;
      step_done = refl;
      end_early = refl;
      reads = refl;
      inbox = refl;
      hidden = refl;
      left = refl;
      guest_p = refl;
      guest_b = refl;
      lags = refl;
      shows = refl;
    }

pub clocks : Clocks
unfolding the_guest the_pair the_trials
clocks =
    record {
      clock_sent = refl;
      clock_read = refl;
      untaken = refl;
      still_armed = refl;
      failover = refl;
      waiting = refl;
      promoted = refl;
    }

pub switching : Switching
unfolding the_guest the_pair the_trials
switching =
    record {
      detect_alive = refl;
      detect_again = refl;
      halted = refl;
      keeps_buffer = refl;
      keeps_guest = refl;
      keeps_link = refl;
      keeps_acks = refl;
      link_goes_on = refl;
      int_idle = refl;
      int_failover = refl;
      int_unknown = refl;
      int_twice = refl;
      int_buffer = refl;
      int_queue = refl;
      dead = refl;
    }

pub inbox : Inbox
unfolding the_guest the_pair the_trials
inbox =
    record {
      room = refl;
      full = refl;
      full_and_none = refl;
      oldest = refl;
      youngest = refl;
      behind = refl;
      acks = refl;
    }
