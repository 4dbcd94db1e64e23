use borrow.Author.Rules.{rules}
use Rattle.desk.specs.Bench.{printed}
use Rattle.desk.proofs.Going.{whole_text}
use Rattle.desk.proofs.bench.run_by.Goals as goal

pub returns : goal.returns
unfolding printed
returns g c = whole_text c.open_by.ensures (search rules) (search rules) (search rules) (search rules)
