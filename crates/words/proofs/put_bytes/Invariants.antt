use lib.ListN.{take}
use Rattle.words.specs.Wrote.{Wrote}
use Rattle.words.proofs.put_bytes.Given as goal

abbrev pub invariant-loop-k : goal.invariant-loop-k
invariant-loop-k g l = Wrote l.initial.buf l.at (take l.k l.fn.bytes) l.buf
