-- No second outcome meets a contract. `F.Post κs a r s` is the `ensures` of F as it stands in src/, of the arguments a and the result r.
use mathlib.Core.Path.{◌≡◌, sym, ◌∙◌}
use Rattle.outcomes.proofs.refused.Reads as refused
use Rattle.outcomes.proofs.taken.Reads as taken
use Rattle.outcomes.proofs.nothing.Reads as nothing
use Rattle.outcomes.proofs.set_up.Reads as set-up

pub refused_exact : (κs a r r' s s' : _) → refused.Post κs a r s → refused.Post κs a r' s' → r ≡ r'
refused_exact κs a r r' s s' p q = p ∙ sym q

pub taken_exact : (κs a r r' s s' : _) → taken.Post κs a r s → taken.Post κs a r' s' → r ≡ r'
taken_exact κs a r r' s s' p q = p ∙ sym q

pub nothing_exact : (κs a r r' s s' : _) → nothing.Post κs a r s → nothing.Post κs a r' s' → r ≡ r'
nothing_exact κs a r r' s s' p q = p ∙ sym q

pub set_up_exact : (κs a r r' s s' : _) → set-up.Post κs a r s → set-up.Post κs a r' s' → r ≡ r'
set_up_exact κs a r r' s s' p q = p ∙ sym q
