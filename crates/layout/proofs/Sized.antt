-- A pair in memory has arrays of their lengths: its type says so.
use mathlib.Core.List.{List}
use mir.Val.{Val}
use denote.Laws.{Is}
use Rattle.rules.specs.declared.Guest.{Guest}
use Rattle.rules.specs.declared.Pair.{Pair}
use Rattle.rules.specs.contracts.Guest as G
use Rattle.rules.specs.contracts.Pair as P
use Rattle.layout.specs.Image.{GuestSized, PairSized}

pub guest_sized : (g : Guest) (vs : List Val) → Is G.the_row g vs → GuestSized g
guest_sized g vs h =
    let f = h.1.1.1.1.1.1.1 in
    let t = f.1.1.1 in
    record {
      regs = f.0.1.0.1;
      mem = f.1.0.1.0.1;
      table = t.0.1.0.1;
      queue = t.1.0.1.0.1;
    }

pub pair_sized : (s : Pair) (vs : List Val) → Is P.the_row s vs → PairSized s
pair_sized s vs h =
    let f = h.1.1 in
    let p = f.0.1.1 in
    let b = f.1.1.0.1.1 in
    let l = f.1.1.1.1.1.1.1 in
    record {
      p = guest_sized s.p.guest _ p.0;
      b = guest_sized s.b.guest _ b.0;
      buffer = p.1.1.0.1.0.1;
      own = b.1.1.0.1.0.1;
      link = l.0.1.0.1;
      inbox = l.1.1.0.1.0.1;
    }
