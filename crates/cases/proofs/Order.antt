-- The numbers, the form of an event, and the order of its refusals, by computation.
use mathlib.Core.Path.{refl}
use Rattle.cases.specs.Order.{Forms, Kinds, Numbers, Order}
use Rattle.cases.proofs.Names.{the_guest, the_pair, the_trials}

pub numbers : Numbers
unfolding the_guest the_pair the_trials
numbers =
    record {
      taken = refl;
      malformed = refl;
      dead = refl;
      out_of_turn = refl;
      must_wait = refl;
      unknown_operation = refl;
      inbox_full = refl;
      epochs_used_up = refl;
      bad_program = refl;
      too_short = refl;
      bad_file = refl;
      unsound = refl;
    }

pub kinds : Kinds
unfolding the_guest the_pair the_trials
kinds =
    record {
      pstep = refl;
      pint = refl;
      ptime = refl;
      pend = refl;
      link = refl;
      ack = refl;
      fail = refl;
      detect = refl;
      bstep = refl;
      bend = refl;
      bint = refl;
    }

pub forms : Forms
unfolding the_guest the_pair the_trials
forms =
    record {
      bytes = refl;
      read = refl;
      short = refl;
      long = refl;
      none = refl;
      kind0 = refl;
      kind12 = refl;
      status_unused = refl;
      operation_unused = refl;
      word_unused = refl;
      status0 = refl;
      status3 = refl;
      operation0 = refl;
      uncertain_data = refl;
      uncertain = refl;
      ignored = refl;
    }

pub order : Order
unfolding the_guest the_pair the_trials
order =
    record {
      malformed = refl;
      too_short = refl;
      unsound = refl;
      length_ack = refl;
      length_dead = refl;
      length_fail = refl;
      bad_dead = refl;
      bad_done = refl;
      bad_idle = refl;
      bad_p = refl;
      bad_b = refl;
      bad_at_p = refl;
      good_at_p = refl;
      bad_at_b = refl;
      good_at_b = refl;
      bad_else = refl;
      pend_used_up = refl;
      pend_waits = refl;
      pend_early = refl;
      bend_used_up = refl;
      bend_waits = refl;
      bend_early = refl;
      detect_alive = refl;
      pint_dead = refl;
    }
