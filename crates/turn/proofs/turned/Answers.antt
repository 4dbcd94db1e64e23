use borrow.Author.Tests.{eq-eqb, ne_eqb}
use Rattle.boundary.specs.InSlots.{boundary_in}
use Rattle.inbox.proofs.Laws.{word-tme}
use Rattle.turn.specs.InSlots.{turned_in}
use Rattle.turn.proofs.turned.Goals as goal

pub returns-then-e-eq0 : goal.returns-then-e-eq0
unfolding turned_in boundary_in
returns-then-e-eq0 c = rw (eq-eqb _ _ c.if-e-eq0.true)

pub returns : goal.returns
unfolding turned_in boundary_in
returns c = rw (ne_eqb _ _ c.if-e-eq0.false, c.close.ensures, c.first_word-clock.ensures, c.deliver_ints-heard.ensures, word-tme)
