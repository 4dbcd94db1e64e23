-- What the bench prints, by computation.
use mathlib.Core.Path.{refl}
use Prim.Native.Nat.{ℕ}
use Rattle.cases.proofs.Names.{the_guest, the_pair, the_trials}
use Rattle.reader.specs.Events.{event_at}
use Rattle.forms.specs.Lent.{refusing, where_taken}
use Rattle.runfile.specs.RunFile.{fine_events, fine_lengths, fine_program, is_run_file, read_answer, read_events, read_limit, read_program, run_bytes}
use Rattle.text.specs.Lines.{end_line, entry_line, entry_text, number_field}
use Rattle.text.specs.Numbers.{decimal, digits}
use Rattle.words.specs.Arrays.{each}
use Rattle.desk.specs.Bench.{bench_run, bench_start, stopped, goes_on, line_of, lines, printed, shows, takes}
use Rattle.starred.specs.Printed.{Printed, file_of}

-- a run file, what the bench does with it, and what it prints
unfoldable the_bench : ℕ
unfolding event_at refusing where_taken fine_events fine_lengths fine_program is_run_file read_answer read_events read_limit read_program run_bytes end_line entry_line entry_text number_field decimal digits each bench_run bench_start stopped goes_on line_of lines printed shows takes file_of
the_bench = 0

pub printed_cases : Printed
unfolding the_guest the_pair the_trials the_bench
printed_cases =
    record {
      prints_a = refl;
      prints_b = refl;
      prints_c = refl;
      detect_early = refl;
      third_step = refl;
      no_events = refl;
      empty_file = refl;
      cut_file = refl;
      bad_program = refl;
      limit0 = refl;
      limit4097 = refl;
    }
