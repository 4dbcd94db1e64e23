-- No second outcome meets a contract. `F.Post κs a r s` is the `ensures` of F as it stands in src/lib.rt, of the arguments a and the result r.
use Rattle.std.proofs.Common.{◌≡◌, sym, ◌∙◌}
use Rattle.table.proofs.has.Reads as has
use Rattle.table.proofs.strike.Reads as strike

pub has_exact : (κs a r r' s s' : _) → has.Post κs a r s → has.Post κs a r' s' → r ≡ r'
has_exact κs a r r' s s' p q = p ∙ sym q

pub strike_exact : (κs a r r' s s' : _) → strike.Post κs a r s → strike.Post κs a r' s' → r ≡ r'
strike_exact κs a r r' s s' p q = p ∙ sym q
