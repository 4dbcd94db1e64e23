-- No second outcome meets a contract. `F.Post κs a r s` is the `ensures` of F as it stands in src/, of the arguments a and the result r.
use mathlib.Core.Path.{◌≡◌, sym, ◌∙◌}
use Rattle.get_image.proofs.get.Reads as get

pub get_exact : (κs a r r' s s' : _) → get.Post κs a r s → get.Post κs a r' s' → r ≡ r'
get_exact κs a r r' s s' p q = p ∙ sym q
