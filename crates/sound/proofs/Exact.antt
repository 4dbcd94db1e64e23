-- No second outcome meets a contract. `F.Post κs a r s` is the `ensures` of F as it stands in src/lib.rt, of the arguments a and the result r.
use mathlib.Core.Path.{◌≡◌, sym, ◌∙◌}
use Rattle.sound.proofs.proper.Reads as proper
use Rattle.sound.proofs.sound_guest.Reads as sound-guest

pub proper_exact : (κs a r r' s s' : _) → proper.Post κs a r s → proper.Post κs a r' s' → r ≡ r'
proper_exact κs a r r' s s' p q = p ∙ sym q

pub sound_guest_exact : (κs a r r' s s' : _) → sound-guest.Post κs a r s → sound-guest.Post κs a r' s' → r ≡ r'
sound_guest_exact κs a r r' s s' p q = p.0 ∙ sym q.0
