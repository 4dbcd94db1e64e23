use Rattle.std.proofs.Common.{ap, sym, ◌∙◌}
use Rattle.rules.specs.Guest.{ops_of}
use Rattle.rules.specs.GuestSlots.{used_interrupt}
use Rattle.rules.specs.Sound.{once}
use Rattle.slots.proofs.Entries.{entries-all}
use Rattle.slots.specs.Slots.{every}
use Rattle.pair.proofs.Buffered.{not_once, once_later, once-none, used_later}
use Rattle.pair.proofs.once.Goals as goal

pub loop-i-init : goal.loop-i-init
loop-i-init c = (ap (every used_interrupt) c.used-rest.ensures ∙ entries-all used_interrupt c.args.buffer.now, ap (λ l. once (ops_of l)) (sym c.used-rest.ensures))

pub returns-then-has : goal.returns-then-has
returns-then-has c = sym (c.loop-i.invariant.1 ∙ not_once _ _ _ c.in-Some.ensures.cases.0 c.loop-i.invariant.0 (sym c.has.ensures ∙ c.if-has.true))

pub loop-i-preserved : goal.loop-i-preserved
loop-i-preserved c =
    (used_later _ _ _ c.in-Some.ensures.cases.0 c.loop-i.invariant.0, c.loop-i.invariant.1 ∙ once_later _ _ _ c.in-Some.ensures.cases.0 c.loop-i.invariant.0 (sym c.has.ensures ∙ c.if-has.false))

pub returns : goal.returns
returns c = sym (c.loop-i.invariant.1 ∙ once-none _ c.in_default.ensures.cases)
