-- Where the header is fine its lengths are small, so they can be added.
use borrow.Author.Rules.{rules}
use Rattle.runfile.specs.RunFile.{is_run_file}
use Rattle.runfile.proofs.is_run_file.Goals as goal

pub returns-then-not-fine_header : goal.returns-then-not-fine_header
unfolding is_run_file
returns-then-not-fine_header c = search rules

pub returns : goal.returns
unfolding is_run_file
returns c = search rules
