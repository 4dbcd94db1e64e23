-- No second outcome meets a contract. `F.Post κs a r s` is the `ensures` of F as it stands in src/, of the arguments a and the result r.
use mathlib.Core.Path.{◌≡◌, sym, ◌∙◌}
use Rattle.fine_image.proofs.fine.Reads as fine

pub fine_exact : (κs a r r' s s' : _) → fine.Post κs a r s → fine.Post κs a r' s' → r ≡ r'
fine_exact κs a r r' s s' p q = p ∙ sym q
