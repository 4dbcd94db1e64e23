-- No second outcome meets a contract. `F.Post κs a r s` is the `ensures` of F as it stands in src/lib.rt, of the arguments a and the result r.
use mathlib.Core.Path.{◌≡◌, sym, ◌∙◌}
use Rattle.turn.proofs.turned.Reads as turned
use Rattle.turn.proofs.turned_last.Reads as turned-last

pub turned_exact : (κs a r r' s s' : _) → turned.Post κs a r s → turned.Post κs a r' s' → r ≡ r'
turned_exact κs a r r' s s' p q = p ∙ sym q

pub turned_last_exact : (κs a r r' s s' : _) → turned-last.Post κs a r s → turned-last.Post κs a r' s' → r ≡ r'
turned_last_exact κs a r r' s s' p q = p ∙ sym q
