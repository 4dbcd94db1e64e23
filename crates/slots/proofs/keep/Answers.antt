use Rattle.std.proofs.Common.{length, ap, sym, ◌∙◌, arith, rules}
use Rattle.slots.specs.Slots.{keep, padded}
use Rattle.slots.proofs.Entries.{length-entries}
use Rattle.slots.proofs.Filling.{filling_from, filling_more, filling_skip, filling_end}
use Rattle.slots.proofs.Looking.{keep_here, keep_past, keep_over}
use Rattle.slots.proofs.keep.Goals.{then-test, else-test}
use Rattle.slots.proofs.keep.Goals as goal

pub loop-x-init : goal.loop-x-init
loop-x-init g c =
    let some = length-entries g.T.Slot.used c.args.slots.now in
    (search rules, omega (arith, some, ap length c.used-x-items.ensures, c.told-slots), λ p e. filling_from c.free-kept.ensures)

pub loop-x-preserved : goal.loop-x-preserved
loop-x-preserved g c =
    let xs = c.used-x-items.result.now in
    let i = c.loop-x.x-index in
    let x = c.x-item.result in
    let held = c.loop-x.invariant.2 in
    elim c.if-test.branch [
      | then-test w ↦ rw (w.kept-is, w.n-is) (
        omega arith,
        search rules,
        λ p e.
            filling_more (held p e) (keep_here p xs i x (search rules) c.x-item.is (sym (e x c.test.result c.test.ensures) ∙ w.if-test.true)) (omega arith),
      )
      | else-test w ↦ rw (w.kept-is, w.n-is) (
        omega arith,
        search rules,
        λ p e.
            filling_skip (held p e) (keep_past p xs i x (search rules) c.x-item.is (sym (e x c.test.result c.test.ensures) ∙ w.if-test.false)),
      )
    ]

pub returns : goal.returns
returns g c p e =
    let xs = c.used-x-items.result.now in
    filling_end (c.loop-x.invariant.2 p e) (keep_over p xs c.loop-x.x-index c.loop-x-test.false)
    ∙ ap (λ l. padded g.row.N g.T.Slot.zero (keep p l)) c.used-x-items.ensures
