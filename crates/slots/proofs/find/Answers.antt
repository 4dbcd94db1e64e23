use Rattle.std.proofs.Common.{sym, ap, ◌∙◌, rules, find}
use Rattle.slots.proofs.Looking.{find_found, find_past, find_over}
use Rattle.slots.proofs.find.Goals as goal

pub returns-then-test : goal.returns-then-test
returns-then-test g c p e =
    let xs = c.used-x-items.result.now in
    let passes = sym (e c.x-item.result c.test.result c.test.ensures) in
    sym (ap (find p) (sym c.used-x-items.ensures) ∙ c.loop-x.invariant p e ∙ find_found p xs c.loop-x.x-index c.x-item.result (search rules) c.x-item.is (passes ∙ c.if-test.true))

pub loop-x-preserved : goal.loop-x-preserved
loop-x-preserved g c p e =
    let xs = c.used-x-items.result.now in
    let passes = sym (e c.x-item.result c.test.result c.test.ensures) in
    c.loop-x.invariant p e ∙ find_past p xs c.loop-x.x-index c.x-item.result (search rules) c.x-item.is (passes ∙ c.if-test.false)

pub returns : goal.returns
returns g c p e =
    let xs = c.used-x-items.result.now in
    sym (ap (find p) (sym c.used-x-items.ensures) ∙ c.loop-x.invariant p e ∙ find_over p xs c.loop-x.x-index c.loop-x-test.false)
