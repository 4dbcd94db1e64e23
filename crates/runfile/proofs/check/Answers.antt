use mathlib.Core.Path.{◌∙◌, sym}
use Rattle.runfile.proofs.Reading.{taken, refused}
use Rattle.runfile.proofs.check.Goals as goal

pub returns-then-is_run_file : goal.returns-then-is_run_file
returns-then-is_run_file c = sym (taken _ (sym c.is_run_file.ensures ∙ c.if-is_run_file.true))

pub returns : goal.returns
returns c = sym (refused _ (sym c.is_run_file.ensures ∙ c.if-is_run_file.false))
