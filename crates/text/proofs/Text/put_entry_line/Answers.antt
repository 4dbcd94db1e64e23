use borrow.Author.Rules.{rules}
use Rattle.text.specs.Lines.{entry_line}
use Rattle.text.proofs.Texts.{◌then◌}
use Rattle.text.proofs.Lines.{entry-short}
use Rattle.text.proofs.Text.put_entry_line.Goals as goal

pub returns-clause-short : goal.returns-clause-short
unfolding entry_line
returns-clause-short c = entry-short _ _ _ (search rules) (search rules) (search rules)

pub returns-clause-spelled : goal.returns-clause-spelled
unfolding entry_line
returns-clause-spelled c = c.put_entry.ensures then c.put_line_end.ensures
