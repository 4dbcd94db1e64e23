-- What the cases compute with: to unfold one of these names is to unfold all that its line names.
use Prim.Native.Nat.{ℕ}
use Rattle.slots.specs.Slots.{any, entries, every, folded, keep, padded, without}
use Rattle.rules.specs.{Boundary.{boundary, deliver, due, failover, restart, rings, tell_uncertain, timer, told}, Bytes.{apply_read, event_of, heard, read_event, stepped}, Decode.{allow, decode, fetch, instr_of, is_bad}, Events.{ended, handle, in_front, kind, linked, malformed, number, refuse, sends, set_up, turned, turned_last, unread}, Guest.{fresh, listed, ops_of}, GuestSlots.{laid_guest, seen_guest, tight_guest}, GuestSound.{ascending, proper, says, sound_entry, sound_guest}, History.recorded, Instruction.{cannot_start, complete, is_time, moved, next, oldest, perform, quotient, start, starts, take}, Lone.{fresh_lone, is_shown, lone_step, lone_steps, may_run, may_tell, reached}, Messages.{drop_epoch, drop_val, end, first, gather, has_end, int, int_of, interrupt_of, ints, is_end, of_epoch, of_kind, only, place, tme, tme_of, tmes, val, val_of, vals}, Pair.{acknowledged, awaited, buffers, clock_sent, enters, fresh_pair, halted, is_failed, is_following, is_promoted, is_waiting, noticed, on_b, on_p, ran_on, received, setup_of}, PairSlots.{answer_number, apply, laid, laid_card, made, outcome, seen, seen_card, sound_pair, stored, tight_card, tight_pair, zero_pair}, Program.{at_time, bad, exec, good, good_program, good_up_to, instr, under}, Sound.{extra, once, sound, sound_buffer, sound_limits, sound_message, sound_turns, sound_wires}}
use Rattle.cases.specs.{Cards.{alarm_epoch, alarms, b_steps, clocked, due_at_failover, following, into_epoch2, lagging, on_entry2, promotion, rung, starter, stop_waiting, told_waiting, waiting_in_inbox, whole_epoch}, Example.{arithmetic, case_a, case_b, case_c, example}, Guest.{busy, register, up_to}, LoneCard.{lone_after, lone_epoch, lone_record}, Order.{b_in_epoch, bad_at, p_in_epoch, rubbish}, SettingUp.nops_and, Sound.{guest_p, idling, in_inbox, most, on_link, promoted, waiting}, Trials.{eight, go_on, printed, repeated, stages, stand, standing, trial, trial_from}, Unreached.{after_one, clockwork, holding, left_by, mixed, of_three, read_from}}

-- one instruction, the boundary, a guest's soundness and its slots
unfoldable pub the_guest : ℕ
unfolding entries padded keep without any every folded fresh listed ops_of allow decode fetch is_bad instr_of quotient oldest take cannot_start starts start moved perform next complete is_time told deliver tell_uncertain due rings timer restart boundary failover under instr bad at_time exec good_up_to good_program good says proper sound_entry ascending sound_guest seen_guest laid_guest tight_guest
the_guest = 0

-- messages, soundness, every event, the pair in memory, an event's bytes
unfoldable pub the_pair : ℕ
unfolding val int tme end of_epoch of_kind interrupt_of only val_of int_of tme_of is_end place gather vals ints tmes has_end drop_val drop_epoch first is_failed is_waiting clock_sent is_following is_promoted awaited ran_on buffers enters on_p on_b received acknowledged halted noticed setup_of fresh_pair once sound_buffer sound_message extra sound_wires sound_turns sound_limits sound number refuse malformed linked turned turned_last ended sends unread handle in_front set_up seen_card seen laid_card laid tight_card tight_pair sound_pair stored apply outcome answer_number zero_pair made heard event_of read_event apply_read stepped recorded kind
the_pair = 0

-- the lone card
unfoldable pub the_lone_card : ℕ
unfolding reached may_tell is_shown may_run lone_step lone_steps fresh_lone
the_lone_card = 0

-- events and trials
unfoldable pub the_trials : ℕ
unfolding eight go_on trial_from trial printed stand standing stages repeated busy register up_to example case_a case_b case_c arithmetic nops_and clocked whole_epoch told_waiting b_steps following into_epoch2 on_entry2 lagging alarms alarm_epoch rung due_at_failover stop_waiting starter promotion waiting_in_inbox rubbish bad_at p_in_epoch b_in_epoch guest_p on_link in_inbox waiting promoted idling most clockwork holding after_one read_from left_by mixed of_three lone_after lone_record lone_epoch
the_trials = 0
