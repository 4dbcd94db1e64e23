use mathlib.Core.Path.{refl}
use native.Mathlib.Omega.{arith}
use Rattle.words.proofs.Wrote.{more_bytes}
use Rattle.words.proofs.put_bytes.Goals as goal

pub loop-k-preserved : goal.loop-k-preserved
loop-k-preserved g c = more_bytes c.args.bytes c.loop-k.k 0 (omega arith) c.loop-k.invariant c.store.ensures refl
