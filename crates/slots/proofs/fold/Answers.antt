use Rattle.std.proofs.Common.{◌+◌, drop, sym, ap, ◌∙◌, rules}
use Rattle.slots.specs.Slots.{folded}
use Rattle.slots.proofs.Looking.{folded_on, folded_over}
use Rattle.slots.proofs.fold.Goals as goal

pub loop-x-preserved : goal.loop-x-preserved
loop-x-preserved g c f e =
    let xs = c.used-x-items.result.now in
    c.loop-x.invariant f e
    ∙ folded_on f xs c.loop-x.x-index c.x-item.result (search rules) c.x-item.is c.loop-x.all
    ∙ ap (λ b. folded f b (drop (c.loop-x.x-index + 1) xs)) (sym (e _ _ _ c.step-all.ensures))

pub returns : goal.returns
returns g c f e =
    let xs = c.used-x-items.result.now in
    sym (ap (folded f c.args.start) (sym c.used-x-items.ensures) ∙ c.loop-x.invariant f e ∙ folded_over f xs c.loop-x.x-index c.loop-x-test.false c.loop-x.all)
