-- "Sound", by computation.
use mathlib.Core.Path.{refl}
use Rattle.cases.specs.Sound.{Slots, SoundGuests, SoundMessages, SoundPhases}
use Rattle.cases.proofs.Names.{the_guest, the_pair, the_trials}

pub sound_guests : SoundGuests
unfolding the_guest the_pair the_trials
sound_guests =
    record {
      as_they_are = refl;
      as_promoted = refl;
      deadline = refl;
      unarmed = refl;
      pc = refl;
      instructions = refl;
      instructions_b = refl;
      times40 = refl;
      times41 = refl;
      times_above = refl;
      times_all = refl;
      descending = refl;
      again = refl;
      above_last = refl;
      up_to_last = refl;
      status4 = refl;
      status2 = refl;
      operation0 = refl;
      uncertain_data = refl;
      two_timers = refl;
      timer_operation = refl;
      seventeen = refl;
      sixteen = refl;
    }

pub sound_messages : SoundMessages
unfolding the_guest the_pair the_trials
sound_messages =
    record {
      status3 = refl;
      status2 = refl;
      uncertain_data = refl;
      not_in_table = refl;
      twice = refl;
      both = refl;
      not_in_table_b = refl;
      kind5 = refl;
      epoch0 = refl;
      epoch65535 = refl;
      on_the_link = refl;
      int_status0 = refl;
      int_status3 = refl;
      int_operation0 = refl;
      int_uncertain_data = refl;
      int = refl;
      val_status = refl;
      val_operation = refl;
      tme_status = refl;
      tme_operation = refl;
      end_status = refl;
      end_operation = refl;
      end_word = refl;
      one_more = refl;
      without_times = refl;
      without_buffered = refl;
      without_waiting = refl;
      failed = refl;
      failed_one_more = refl;
      all_four = refl;
      fifty_eight = refl;
      fifty_nine = refl;
      inbox128 = refl;
      inbox129 = refl;
    }

pub sound_phases : SoundPhases
unfolding the_guest the_pair the_trials
sound_phases =
    record {
      limit0 = refl;
      limit1 = refl;
      limit4096 = refl;
      limit4097 = refl;
      count0 = refl;
      count1 = refl;
      count1024 = refl;
      count1025 = refl;
      epoch_p = refl;
      idle = refl;
      idle_failover = refl;
      idle_done = refl;
      incomplete = refl;
      detected = refl;
      stop_detected = refl;
      failover = refl;
      promoted_alone = refl;
      buffer_following = refl;
      buffer_failover = refl;
    }

pub slots : Slots
unfolding the_guest the_pair the_trials
slots =
    record {
      buffer = refl;
      table = refl;
      queue = refl;
      link = refl;
      inbox = refl;
      gap_in_table = refl;
      gap_in_queue = refl;
      gap_in_buffer = refl;
      gap_on_link = refl;
      gap_in_inbox = refl;
      left_in_queue = refl;
      left_operation = refl;
      left_in_buffer = refl;
      left_in_buffer_b = refl;
      left_on_link = refl;
      left_in_inbox = refl;
      sound = refl;
      sound_queue = refl;
      answer = refl;
      taken = refl;
      handed_back = refl;
    }
