use Rattle.std.proofs.Common.{Bool, not, ◌&&◌, length, ap, sym, ◌∙◌, arith, rules}
use Rattle.slots.specs.Slots.{without, padded}
use Rattle.slots.proofs.Entries.{length-entries}
use Rattle.slots.proofs.Filling.{filling_from, filling_more, filling_skip, filling_end}
use Rattle.slots.proofs.Looking.{left_found, left_kept, left_over}
use Rattle.slots.proofs.without.Goals.{then-here, else-here}
use Rattle.slots.proofs.without.Goals as goal

pub loop-x-init : goal.loop-x-init
loop-x-init g c =
    let some = length-entries g.T.Slot.used c.args.slots.now in
    (search rules, omega (arith, some, ap length c.used-x-items.ensures, c.told-slots), λ p e. filling_from c.free-left.ensures)

pub loop-x-preserved : goal.loop-x-preserved
loop-x-preserved g c =
    let xs = c.used-x-items.result.now in
    let i = c.loop-x.x-index in
    let x = c.x-item.result in
    let found = c.loop-x.found in
    let held = c.loop-x.invariant.2 in
    elim c.if-here.branch [
      | then-here w ↦ rw (w.left-is, w.n-is, w.found-is) (
        omega arith,
        search rules,
        λ p e.
            filling_skip (held p e) (left_found p xs i x (search rules) c.x-item.is found (ap (λ (b : Bool). not found && b) (sym (e x c.test.result c.test.ensures)) ∙ w.if-here.true)),
      )
      | else-here w ↦ rw (w.left-is, w.n-is, w.found-is) (
        omega arith,
        search rules,
        λ p e.
            filling_more (held p e) (left_kept p xs i x (search rules) c.x-item.is found (ap (λ (b : Bool). not found && b) (sym (e x c.test.result c.test.ensures)) ∙ w.if-here.false)) (omega arith),
      )
    ]

pub returns : goal.returns
returns g c p e =
    let xs = c.used-x-items.result.now in
    filling_end (c.loop-x.invariant.2 p e) (left_over p xs c.loop-x.x-index c.loop-x-test.false c.loop-x.found)
    ∙ ap (λ l. padded g.row.N g.T.Slot.zero (without p l)) c.used-x-items.ensures
