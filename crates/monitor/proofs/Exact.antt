-- No second outcome meets the contract. `F.Post κs a r s` is the `ensures` of F as it stands in src/lib.rt, of the arguments a and the result r.
use mathlib.Core.Path.{◌≡◌, sym, ◌∙◌}
use Rattle.monitor.proofs.step.Reads as step

pub step_exact : (κs a r r' s s' : _) → step.Post κs a r s → step.Post κs a r' s' → r ≡ r'
step_exact κs a r r' s s' p q = p ∙ sym q
