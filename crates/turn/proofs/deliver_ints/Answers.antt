use Rattle.std.proofs.Common.{◌∙◌, rules}
use Rattle.turn.specs.InSlots.{hear_in}
use Rattle.turn.proofs.Heard.{heard-ints}
use Rattle.turn.proofs.deliver_ints.Goals as goal

pub returns : goal.returns
returns c = c.fold.ensures (hear_in c.args.e) (λ h m r k. search rules) ∙ heard-ints c.args.e _ _
