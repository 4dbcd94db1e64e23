-- No second outcome meets a contract. `F.Post κs a r s` is the `ensures` of F as it stands in src/lib.rt, of the arguments a and the result r.
use mathlib.Core.Path.{◌≡◌, sym, ◌∙◌}
use Rattle.event.proofs.read_event.Reads as read-event
use Rattle.event.proofs.malformed.Reads as malformed

pub read_event_exact : (κs a r r' s s' : _) → read-event.Post κs a r s → read-event.Post κs a r' s' → r ≡ r'
read_event_exact κs a r r' s s' p q = p ∙ sym q

pub malformed_exact : (κs a r r' s s' : _) → malformed.Post κs a r s → malformed.Post κs a r' s' → r ≡ r'
malformed_exact κs a r r' s s' p q = p ∙ sym q
