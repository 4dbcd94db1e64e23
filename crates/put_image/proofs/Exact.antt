-- No second outcome meets a contract. `F.Post κs a r s` is the `ensures` of F as it stands in src/, of the arguments a, the result r and what the references hold at the end, s.
use mathlib.Core.Path.{◌≡◌}
use Rattle.words.proofs.Wrote.{wrote-once}
use Rattle.put_image.proofs.put.Reads as put

pub put_exact : (κs a r r' s s' : _) → put.Post κs a r s → put.Post κs a r' s' → s.1.0.now ≡ s'.1.0.now
put_exact κs a r r' s s' p q = wrote-once p q
