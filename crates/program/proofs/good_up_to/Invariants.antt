-- Those before k are well formed.
use Rattle.std.proofs.Common.{◌≡◌, true}
use Rattle.rules.specs.Program.{good_up_to}
use Rattle.program.proofs.good_up_to.Given as goal

abbrev pub invariant-loop-k : goal.invariant-loop-k
invariant-loop-k l = good_up_to l.program l.n l.k ≡ true
