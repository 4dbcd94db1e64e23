-- At the loop's test the bench would stand where the last stretch ended, with the same text.
use Prim.Native.Nat.{◌-◌}
use Rattle.desk.proofs.Going.{Going}
use Rattle.walker.proofs.take.Given as goal

abbrev pub invariant-loop-n : goal.invariant-loop-n
invariant-loop-n l = Going l.file l.initial.pair l.pair l.n l.events l.initial.text l.text

abbrev pub decreases-loop-n : goal.decreases-loop-n
decreases-loop-n l = l.events - l.n
