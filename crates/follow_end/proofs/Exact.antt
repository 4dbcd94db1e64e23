-- No second outcome meets the contract. `F.Post κs a r s` is the `ensures` of F as it stands in src/lib.rt, of the arguments a and the result r.
use mathlib.Core.Path.{◌≡◌, sym, ◌∙◌}
use Rattle.follow_end.proofs.b_end.Reads as b_end

pub b_end_exact : (κs a r r' s s' : _) → b_end.Post κs a r s → b_end.Post κs a r' s' → r ≡ r'
b_end_exact κs a r r' s s' p q = p ∙ sym q
