use mathlib.Core.List.{[]}
use Rattle.text.proofs.Numbers.{each_itself}
use Rattle.text.proofs.Texts.{all, more, none}
use Rattle.text.proofs.Text.put_bytes.Goals as goal

pub loop-b-init : goal.loop-b-init
loop-b-init c = none _ []

pub loop-b-preserved : goal.loop-b-preserved
loop-b-preserved c = more _ _ _ 0 c.loop-b-test.true c.loop-b.invariant c.put_byte.ensures

pub returns : goal.returns
returns c = rw (each_itself _) at (all _ _ c.loop-b-test.false c.loop-b.invariant)
