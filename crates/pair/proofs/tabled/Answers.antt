use Rattle.std.proofs.Common.{◌∙◌, rules}
use Rattle.rules.specs.Guest.{listed}
use Rattle.rules.specs.GuestSlots.{used_op}
use Rattle.slots.specs.Slots.{entries}
use Rattle.pair.proofs.Buffered.{every_op}
use Rattle.pair.proofs.tabled.Goals as goal

pub returns : goal.returns
returns c = c.every.ensures (λ i. listed i.op (entries used_op c.args.table.now)) (λ i b h. search rules) ∙ every_op (λ o. listed o (entries used_op c.args.table.now)) _
