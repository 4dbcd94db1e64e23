use borrow.Author.Rules.{rules}
use Rattle.requests.proofs.Promises.{is_cut, is_whole}
use Rattle.requests.proofs.answer.Goals as goal

pub returns-then-n-room : goal.returns-then-n-room
returns-then-n-room c = rw c.len-n.ensures (is_whole c.spell.ensures c.new-line.ensures.bytes c.new-line.ensures.place (search rules) (search rules))

pub returns-else-n-room : goal.returns-else-n-room
returns-else-n-room c = is_cut c.spell.ensures c.new-line.ensures.bytes c.new-line.ensures.place (search rules) (search rules)
