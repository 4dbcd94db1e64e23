-- No second outcome meets a contract. `F.Post κs a r s` is the `ensures` of F as it stands in src/lib.rt, of the arguments a and the result r.
use mathlib.Core.Path.{◌≡◌, sym, ◌∙◌}
use Rattle.answers.proofs.number.Reads as number

pub number_exact : (κs a r r' s s' : _) → number.Post κs a r s → number.Post κs a r' s' → r ≡ r'
number_exact κs a r r' s s' p q = p ∙ sym q
