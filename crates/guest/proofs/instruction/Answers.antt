use Rattle.std.proofs.Common.{leb, sym, ◌∙◌, arith, leb-false}
use Rattle.rules.specs.Instruction.{complete}
use Rattle.slots.proofs.Tests.{or_false}
use Rattle.guest.specs.InSlots.{instruction_in}
use Rattle.guest.proofs.instruction.Goals as goal

pub returns-then-complete : goal.returns-then-complete
unfolding instruction_in
returns-then-complete c = rw (c.quiet.ensures, ← c.complete.ensures, c.if-complete.true)

pub perform-requires : goal.perform-requires
unfolding complete
perform-requires c = let k = or_false (leb c.args.l c.args.g.now.done) (leb 40 c.args.g.now.times) (sym c.complete.ensures ∙ c.if-complete.false) in (omega (arith, leb-false c.args.l c.args.g.now.done k.0), omega (arith, leb-false 40 c.args.g.now.times k.1))

pub returns : goal.returns
unfolding instruction_in
returns c = rw (c.perform.ensures, c.next.ensures, ← c.complete.ensures, c.if-complete.false)
