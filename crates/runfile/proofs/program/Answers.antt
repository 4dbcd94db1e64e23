-- Of a run file the part is there; of any other file it is empty.
use mathlib.Core.Path.{◌≡◌, ◌∙◌, sym}
use Prim.Native.Nat.{◌+◌, ◌-◌}
use native.Mathlib.Omega.{arith}
use Rattle.words.specs.Numbers.{at32}
use Rattle.runfile.specs.RunFile.{bodies}
use Rattle.runfile.proofs.Reading.{Whole, whole, no_program}
use Rattle.runfile.proofs.program.Goals as goal

pub slice_bounds-result-end : goal.slice_bounds-result-end
slice_bounds-result-end c = let w : Whole c.args.file.now = whole _ (sym c.is_run_file.ensures ∙ c.if-is_run_file.true) in omega arith

pub returns-then-is_run_file : goal.returns-then-is_run_file
returns-then-is_run_file c =
    let w : Whole c.args.file.now = whole _ (sym c.is_run_file.ensures ∙ c.if-is_run_file.true) in
    let long : bodies + c.program_length-end.result - bodies ≡ at32 c.args.file.now 12 = omega arith in
    rw (w.program, long)

pub returns : goal.returns
returns c = sym (no_program _ (sym c.is_run_file.ensures ∙ c.if-is_run_file.false))
