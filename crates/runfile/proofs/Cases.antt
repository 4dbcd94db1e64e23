-- A run file byte for byte, by computation.
use mathlib.Core.Path.{refl}
use Rattle.forms.specs.Lent.{refusing, where_taken}
use Rattle.rules.specs.{Events.number, PairSlots.answer_number}
use Rattle.runfile.specs.{Cases.{Cases, file, nop, pend}, RunFile.{fine_events, fine_lengths, fine_program, is_run_file, read_answer, read_events, read_limit, read_program, run_bytes, write_answer}}

pub cases : Cases
unfolding refusing where_taken number answer_number file nop pend fine_events fine_lengths fine_program is_run_file read_answer read_events read_limit read_program run_bytes write_answer
cases =
    record {
      written = refl;
      taken = refl;
      any_limit = refl;
      limit = refl;
      program = refl;
      events = refl;
      longer = refl;
      shorter = refl;
      header_alone = refl;
      nothing = refl;
      form = refl;
      entries = refl;
      program_tag = refl;
      events_tag = refl;
      program_offset = refl;
      events_offset = refl;
      program_length = refl;
      events_length = refl;
      no_program = refl;
      one_instruction = refl;
      not_in_fours = refl;
      most_instructions = refl;
      too_many_instructions = refl;
      not_in_eights = refl;
    }
