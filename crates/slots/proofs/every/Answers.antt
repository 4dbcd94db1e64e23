use Rattle.std.proofs.Common.{sym, ap, ◌∙◌, rules}
use Rattle.slots.specs.Slots.{every}
use Rattle.slots.proofs.Looking.{every_broken, every_past, every_over}
use Rattle.slots.proofs.every.Goals as goal

pub returns-then-not-test : goal.returns-then-not-test
returns-then-not-test g c p e =
    let xs = c.used-x-items.result.now in
    let passes = sym (e c.x-item.result c.test.result c.test.ensures) in
    sym (ap (every p) (sym c.used-x-items.ensures) ∙ c.loop-x.invariant p e ∙ every_broken p xs c.loop-x.x-index c.x-item.result (search rules) c.x-item.is (passes ∙ c.if-not-test.true))

pub loop-x-preserved : goal.loop-x-preserved
loop-x-preserved g c p e =
    let xs = c.used-x-items.result.now in
    let passes = sym (e c.x-item.result c.test.result c.test.ensures) in
    c.loop-x.invariant p e ∙ every_past p xs c.loop-x.x-index c.x-item.result (search rules) c.x-item.is (passes ∙ c.if-not-test.false)

pub returns : goal.returns
returns g c p e =
    let xs = c.used-x-items.result.now in
    sym (ap (every p) (sym c.used-x-items.ensures) ∙ c.loop-x.invariant p e ∙ every_over p xs c.loop-x.x-index c.loop-x-test.false)
