-- The body is written over so many bytes.
use mathlib.Core.Path.{◌≡◌, sym}
use mathlib.Core.List.{append_assoc}
use Prim.Native.Nat.{◌+◌, ◌-◌}
use native.Mathlib.Omega.{arith}
use lib.ListN.{length}
use lib.Seq.{drop-drop, sets-eq}
use Rattle.runfile.proofs.put_body.Goals as goal

pub returns : goal.returns
returns c =
    let n : c.args.at + length c.args.body.now - c.args.at ≡ length c.args.body.now = omega arith in
    record { is = rw (n, c.copy_from_slice.ensures.after, drop-drop, ← append_assoc) (sym (sets-eq c.args.body.now c.args.buf.now c.args.at c.requires)) }
