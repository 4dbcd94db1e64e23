-- No second outcome meets a contract. `F.Post κs a r s` is the `ensures` of F as it stands in src/, of the arguments a and the result r.
use mathlib.Core.Path.{◌≡◌, sym, ◌∙◌}
use Rattle.pair.proofs.sound.Reads as sound

pub sound_exact : (κs a r r' s s' : _) → sound.Post κs a r s → sound.Post κs a r' s' → r ≡ r'
sound_exact κs a r r' s s' p q = p.0 ∙ sym q.0
