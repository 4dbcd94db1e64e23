use borrow.Author.Rules.{rules}
use Rattle.forms.proofs.Loops.{writing_more, writing_start}
use mathlib.Core.Path.{refl}
use Rattle.layout.proofs.put_array.Goals as goal

pub loop-i-init : goal.loop-i-init
loop-i-init g c = writing_start refl

pub loop-i-preserved : goal.loop-i-preserved
loop-i-preserved g c =
    writing_more g.T.Stored.SIZE g.met.T.Stored.wide c.index-xs-i.result c.loop-i.invariant (search rules) (rw (c.SIZE.ensures, c.index-xs-i.is) at c.put.ensures)
