use Rattle.std.proofs.Common.{sym, ◌∙◌, eqb, rules}
use Rattle.rules.specs.Guest.{listed, ops_of}
use Rattle.slots.proofs.Lists.{any_map}
use Rattle.buffer.proofs.has.Goals as goal

pub returns : goal.returns
unfolding listed ops_of
returns c = c.any.ensures (λ i. eqb i.op.0 c.args.o.0) (λ x b h. search rules) ∙ sym (any_map _ _ _)
