-- No second outcome meets a contract. `F.Post κs a r s` is the `ensures` of F as it stands in src/lib.rt, of the arguments a and the result r.
use mathlib.Core.Path.{◌≡◌, sym, ◌∙◌}
use Rattle.boundary.proofs.deliver.Reads as deliver
use Rattle.boundary.proofs.tell_uncertain.Reads as tell-uncertain
use Rattle.boundary.proofs.close.Reads as close
use Rattle.boundary.proofs.boundary.Reads as boundary

pub deliver_exact : (κs a r r' s s' : _) → deliver.Post κs a r s → deliver.Post κs a r' s' → r ≡ r'
deliver_exact κs a r r' s s' p q = p ∙ sym q

pub tell_uncertain_exact : (κs a r r' s s' : _) → tell-uncertain.Post κs a r s → tell-uncertain.Post κs a r' s' → r ≡ r'
tell_uncertain_exact κs a r r' s s' p q = p ∙ sym q

pub close_exact : (κs a r r' s s' : _) → close.Post κs a r s → close.Post κs a r' s' → r ≡ r'
close_exact κs a r r' s s' p q = p ∙ sym q

pub boundary_exact : (κs a r r' s s' : _) → boundary.Post κs a r s → boundary.Post κs a r' s' → r ≡ r'
boundary_exact κs a r r' s s' p q = p ∙ sym q
