-- At the loop's test the bench would stand where the last stretch ended, with the same text; `came`: a stretch has come along.
use native.Mathlib.Omega.{arith}
use borrow.Author.Rules.{rules}
use Rattle.desk.proofs.Going.{going_ends}
use Rattle.walker.proofs.Taking.{stretch_along}
use Rattle.walker.proofs.take.Goals as goal

-- its last event is refused
pub overflow_sub-stretch : goal.overflow_sub-stretch
overflow_sub-stretch c =
    let came = stretch_along _ _ _ _ _ c.loop-n.invariant c.loop-n-test.true c.walk-stretch.result (rw c.program.ensures at c.walk-stretch.ensures) in
    omega (arith, came.passed)

pub returns-in-Err : goal.returns-in-Err
returns-in-Err c =
    let came = stretch_along _ _ _ _ _ c.loop-n.invariant c.loop-n-test.true c.walk-stretch.result (rw c.program.ensures at c.walk-stretch.ensures) in
    came.refused c.in-Err.is c.stop.ensures

-- or taken
pub loop-n-smaller : goal.loop-n-smaller
loop-n-smaller c =
    let came = stretch_along _ _ _ _ _ c.loop-n.invariant c.loop-n-test.true c.walk-stretch.result (rw c.program.ensures at c.walk-stretch.ensures) in
    omega (arith, came.passed)

pub loop-n-preserved : goal.loop-n-preserved
loop-n-preserved c =
    let came = stretch_along _ _ _ _ _ c.loop-n.invariant c.loop-n-test.true c.walk-stretch.result (rw c.program.ensures at c.walk-stretch.ensures) in
    came.taken c.in_default.is c.show.ensures.spelled c.show.ensures.short

-- no event is left
pub returns : goal.returns
returns c = going_ends _ _ c.loop-n.invariant (search rules) c.stop-2.ensures
