use lib.ListN.{length}
use Rattle.forms.proofs.Loops.{Writing}
use Rattle.layout.proofs.put_array.Given as goal

abbrev pub invariant-loop-i : goal.invariant-loop-i
invariant-loop-i g l = Writing g.T.Stored.form.bytes (length l.xs) l.xs l.initial.buf l.at l.buf l.i
