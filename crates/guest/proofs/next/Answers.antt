use Rattle.std.proofs.Common.{suc, add-one, arith, le-ltb, lt-ltb}
use Rattle.rules.specs.Instruction.{next}
use Rattle.guest.proofs.next.Goals as goal

pub returns-then-g-n-2 : goal.returns-then-g-n-2
unfolding next
returns-then-g-n-2 c = rw (add-one, lt-ltb _ _ (rw add-one at c.if-g-n-2.true))

pub returns-else-g-n-2 : goal.returns-else-g-n-2
unfolding next
returns-else-g-n-2 c = rw (le-ltb (suc c.args.g.now.pc) c.args.n (omega arith))

pub returns-else-g-n : goal.returns-else-g-n
unfolding next
returns-else-g-n c = rw (le-ltb (suc c.args.g.now.pc) c.args.n (omega arith))
