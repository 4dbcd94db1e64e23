-- No second outcome meets a contract. `F.Post κs a r s` is the `ensures` of F as it stands in src/lib.rt, of the arguments a and the result r.
use mathlib.Core.Path.{◌≡◌, sym, ◌∙◌}
use Rattle.first.proofs.p_step.Reads as p-step
use Rattle.first.proofs.p_int.Reads as p-int

pub p_step_exact : (κs a r r' s s' : _) → p-step.Post κs a r s → p-step.Post κs a r' s' → r ≡ r'
p_step_exact κs a r r' s s' p q = p ∙ sym q

pub p_int_exact : (κs a r r' s s' : _) → p-int.Post κs a r s → p-int.Post κs a r' s' → r ≡ r'
p_int_exact κs a r r' s s' p q = p ∙ sym q
