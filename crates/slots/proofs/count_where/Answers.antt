use Rattle.std.proofs.Common.{length, ap, sym, ◌∙◌, arith, rules}
use Rattle.slots.specs.Slots.{count}
use Rattle.slots.proofs.Entries.{length-entries}
use Rattle.slots.proofs.Looking.{counted, passed_by, keep_over}
use Rattle.slots.proofs.count_where.Goals.{then-test, else-test}
use Rattle.slots.proofs.count_where.Goals as goal

pub loop-x-preserved : goal.loop-x-preserved
loop-x-preserved g c =
    let xs = c.used-x-items.result.now in
    let i = c.loop-x.x-index in
    let x = c.x-item.result in
    let n = c.loop-x.passed in
    let told = c.loop-x.invariant.1 in
    elim c.if-test.branch [
      | then-test w ↦ rw w.passed-is (
        omega arith,
        λ p e.
            told p e ∙ counted p xs i x (search rules) c.x-item.is n (sym (e x c.test.result c.test.ensures) ∙ w.if-test.true),
      )
      | else-test w ↦ rw w.passed-is (
        omega arith,
        λ p e.
            told p e ∙ passed_by p xs i x (search rules) c.x-item.is n (sym (e x c.test.result c.test.ensures) ∙ w.if-test.false),
      )
    ]

pub returns-clause-is : goal.returns-clause-is
returns-clause-is g c p e =
    let xs = c.used-x-items.result.now in
    omega (arith, c.loop-x.invariant.1 p e, ap length (keep_over p xs c.loop-x.x-index c.loop-x-test.false), ap (count p) c.used-x-items.ensures)

pub returns-clause-most : goal.returns-clause-most
returns-clause-most g c = omega (arith, c.loop-x.invariant.0, ap length c.used-x-items.ensures, length-entries g.T.Slot.used c.args.slots.now)
