use Rattle.std.proofs.Common.{◌∙◌, rules}
use Rattle.rules.specs.Boundary.{uncertain}
use Rattle.slots.proofs.Lists.{folded_map}
use Rattle.boundary.specs.InSlots.{deliver_in, tell_uncertain_in}
use Rattle.boundary.proofs.tell_uncertain.Goals as goal

pub returns : goal.returns
unfolding tell_uncertain_in
returns c = c.fold.ensures (λ h o. deliver_in h (uncertain o)) (λ h o r k. search rules) ∙ folded_map deliver_in uncertain _ _
