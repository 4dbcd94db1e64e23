-- No second outcome meets a contract. `F.Post κs a r s` is the `ensures` of F as it stands in src/lib.rt, of the arguments a and the result r.
use Rattle.std.proofs.Common.{◌≡◌, sym, ◌∙◌}
use Rattle.buffer.proofs.has.Reads as has
use Rattle.buffer.proofs.empty.Reads as empty

pub has_exact : (κs a r r' s s' : _) → has.Post κs a r s → has.Post κs a r' s' → r ≡ r'
has_exact κs a r r' s s' p q = p ∙ sym q

pub empty_exact : (κs a r r' s s' : _) → empty.Post κs a r s → empty.Post κs a r' s' → r ≡ r'
empty_exact κs a r r' s s' p q = p ∙ sym q
