-- Of a run file the part is there; of any other file it is empty.
use mathlib.Core.Path.{◌≡◌, ◌∙◌, sym}
use Prim.Native.Nat.{◌+◌, ◌-◌}
use native.Mathlib.Omega.{arith}
use lib.ListN.{length}
use Rattle.words.specs.Numbers.{at32}
use Rattle.runfile.specs.RunFile.{bodies}
use Rattle.runfile.proofs.Reading.{Whole, whole, no_events_lem}
use Rattle.runfile.proofs.events.Goals as goal

pub slice_bounds-result-count : goal.slice_bounds-result-count
slice_bounds-result-count c = let w : Whole c.args.file.now = whole _ (sym c.is_run_file.ensures ∙ c.if-is_run_file.true) in omega arith

pub slice_bounds-result-start : goal.slice_bounds-result-start
slice_bounds-result-start c = let w : Whole c.args.file.now = whole _ (sym c.is_run_file.ensures ∙ c.if-is_run_file.true) in omega arith

pub returns-then-is_run_file : goal.returns-then-is_run_file
returns-then-is_run_file c =
    let w : Whole c.args.file.now = whole _ (sym c.is_run_file.ensures ∙ c.if-is_run_file.true) in
    let long : length c.args.file.now - (bodies + c.program_length-start.result) ≡ at32 c.args.file.now 24 = omega arith in
    rw (w.events, long, c.program_length-start.ensures)

pub returns : goal.returns
returns c = sym (no_events_lem _ (sym c.is_run_file.ensures ∙ c.if-is_run_file.false))
