-- No second outcome meets a contract. `F.Post κs a r s` is the `ensures` of F as it stands in src/lib.rt, of the arguments a and the result r.
use mathlib.Core.Path.{◌≡◌, sym, ◌∙◌}
use Rattle.follow.proofs.b_step.Reads as b-step
use Rattle.follow.proofs.b_int.Reads as b-int

pub b_step_exact : (κs a r r' s s' : _) → b-step.Post κs a r s → b-step.Post κs a r' s' → r ≡ r'
b_step_exact κs a r r' s s' p q = p ∙ sym q

pub b_int_exact : (κs a r r' s s' : _) → b-int.Post κs a r s → b-int.Post κs a r' s' → r ≡ r'
b_int_exact κs a r r' s s' p q = p ∙ sym q
