use mathlib.Core.Bool.{Bool}
use mathlib.Core.Path.{◌∙◌, ap, refl}
use native.Mathlib.Nat.{zero-add}
use native.Mathlib.Omega.{arith}
use borrow.Author.Rules.{rules}
use Prim.Native.Nat.{ℕ, ◌+◌, ◌*◌}
use Rattle.std.proofs.lemmas.Iterator.{YieldsList-from_range}
use Rattle.std.proofs.lemmas.Iterator.Search.{all_from_yields_List}
use Rattle.forms.proofs.Loops.{all_listed}
use Rattle.layout.proofs.fine_array.Goals as goal

pub returns : goal.returns
returns g c =
    let fine : ℕ → Bool = λ i. g.T.Stored.form.fine c.args.s.now (c.args.at + i * g.T.Stored.SIZE) in
    rw g.met.T.Stored.sized
    (all_from_yields_List fine _ _ _ c.all.ensures.ran (YieldsList-from_range 0 c.args.n c.args.n refl (omega arith)) (λ x b q k. (search rules, search rules))
    ∙ all_listed fine fine 0 c.args.n (λ j. ap fine (zero-add j)))
