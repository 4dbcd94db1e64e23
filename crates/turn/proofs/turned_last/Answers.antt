use Rattle.inbox.proofs.Laws.{word-tme}
use Rattle.turn.specs.InSlots.{turned_last_in}
use Rattle.turn.proofs.turned_last.Goals as goal

pub returns : goal.returns
unfolding turned_last_in
returns c = rw (← word-tme) (cc)
