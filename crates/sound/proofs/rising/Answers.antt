use Rattle.std.proofs.Common.{ap, sym, ◌∙◌}
use Rattle.rules.specs.GuestSound.{ascending}
use Rattle.sound.proofs.Ascent.{ascending_on, ascending_broken, ascending_over}
use Rattle.sound.proofs.rising.Goals as goal

pub returns-then-not-rises : goal.returns-then-not-rises
returns-then-not-rises c =
    sym (ap (ascending 0 c.args.last.0) (sym c.used-x-items.ensures) ∙ c.loop-x.invariant ∙ ascending_broken _ _ c.used-x-items.result.now c.loop-x.x-index c.loop-x-test.true (rw (c.lt.ensures, c.le.ensures) at c.if-not-rises.true))

pub loop-x-preserved : goal.loop-x-preserved
loop-x-preserved c = c.loop-x.invariant ∙ ascending_on _ _ c.used-x-items.result.now c.loop-x.x-index c.loop-x-test.true (rw (c.lt.ensures, c.le.ensures) at c.if-not-rises.false)

pub returns : goal.returns
returns c =
    sym (ap (ascending 0 c.args.last.0) (sym c.used-x-items.ensures) ∙ c.loop-x.invariant ∙ ascending_over _ _ c.used-x-items.result.now c.loop-x.x-index c.loop-x-test.false)
