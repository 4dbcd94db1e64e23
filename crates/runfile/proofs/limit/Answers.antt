use mathlib.Core.Path.{◌∙◌, sym}
use Rattle.runfile.proofs.Reading.{limit_there, no_limit}
use Rattle.runfile.proofs.limit.Goals as goal

pub returns-then-is_run_file : goal.returns-then-is_run_file
returns-then-is_run_file c = c.get16.ensures ∙ sym (limit_there _ (sym c.is_run_file.ensures ∙ c.if-is_run_file.true))

pub returns : goal.returns
returns c = sym (no_limit _ (sym c.is_run_file.ensures ∙ c.if-is_run_file.false))
