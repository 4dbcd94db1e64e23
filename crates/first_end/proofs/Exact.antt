-- No second outcome meets a contract. `F.Post κs a r s` is the `ensures` of F as it stands in src/lib.rt, of the arguments a and the result r.
use mathlib.Core.Path.{◌≡◌, sym, ◌∙◌}
use Rattle.first_end.proofs.p_time.Reads as p-time
use Rattle.first_end.proofs.p_end.Reads as p-end

pub p_time_exact : (κs a r r' s s' : _) → p-time.Post κs a r s → p-time.Post κs a r' s' → r ≡ r'
p_time_exact κs a r r' s s' p q = p ∙ sym q

pub p_end_exact : (κs a r r' s s' : _) → p-end.Post κs a r s → p-end.Post κs a r' s' → r ≡ r'
p_end_exact κs a r r' s s' p q = p ∙ sym q
