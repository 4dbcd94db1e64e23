use mathlib.Core.Path.{◌≡◌, refl}
use borrow.Author.Rules.{rules}
use Prim.Native.Nat.{◌+◌}
use Rattle.words.specs.Numbers.{at8}
use Rattle.words.proofs.Arrays.{tab_from_fn}
use Rattle.words.proofs.get_bytes.Goals as goal

pub returns : goal.returns
returns g c =
    tab_from_fn _ (λ p. (p.0.now ≡ c.args.s.now) × (p.1.now ≡ c.args.at)) (λ k. at8 c.args.s.now (c.args.at + k)) (λ p q i y h k. (search rules, (search rules, search rules))) _ _ _ (refl, refl) c.from_fn.ensures.items
