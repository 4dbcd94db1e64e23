-- No second outcome meets a contract. `F.Post κs a r s` is the `ensures` of F as it stands in src/lib.rt, of the arguments a and the result r.
use mathlib.Core.Path.{◌≡◌, sym, ◌∙◌}
use Rattle.between.proofs.link.Reads as link
use Rattle.between.proofs.ack.Reads as ack
use Rattle.between.proofs.fail.Reads as fail
use Rattle.between.proofs.detect.Reads as detect

pub link_exact : (κs a r r' s s' : _) → link.Post κs a r s → link.Post κs a r' s' → r ≡ r'
link_exact κs a r r' s s' p q = p ∙ sym q

pub ack_exact : (κs a r r' s s' : _) → ack.Post κs a r s → ack.Post κs a r' s' → r ≡ r'
ack_exact κs a r r' s s' p q = p ∙ sym q

pub fail_exact : (κs a r r' s s' : _) → fail.Post κs a r s → fail.Post κs a r' s' → r ≡ r'
fail_exact κs a r r' s s' p q = p ∙ sym q

pub detect_exact : (κs a r r' s s' : _) → detect.Post κs a r s → detect.Post κs a r' s' → r ≡ r'
detect_exact κs a r r' s s' p q = p ∙ sym q
