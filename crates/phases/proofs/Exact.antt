-- No second outcome meets a contract. `F.Post κs a r s` is the `ensures` of F as it stands in src/, of the arguments a and the result r.
use mathlib.Core.Path.{◌≡◌, sym, ◌∙◌}
use Rattle.phases.proofs.is_failed.Reads as is-failed
use Rattle.phases.proofs.is_waiting.Reads as is_waiting_lem
use Rattle.phases.proofs.clock_sent.Reads as clock_sent
use Rattle.phases.proofs.is_following.Reads as is-following
use Rattle.phases.proofs.is_promoted.Reads as is-promoted
use Rattle.phases.proofs.with_phase.Reads as with-phase

pub is_failed_exact : (κs a r r' s s' : _) → is-failed.Post κs a r s → is-failed.Post κs a r' s' → r ≡ r'
is_failed_exact κs a r r' s s' p q = p ∙ sym q

pub is_waiting_exact : (κs a r r' s s' : _) → is_waiting_lem.Post κs a r s → is_waiting_lem.Post κs a r' s' → r ≡ r'
is_waiting_exact κs a r r' s s' p q = p ∙ sym q

pub is_following_exact : (κs a r r' s s' : _) → is-following.Post κs a r s → is-following.Post κs a r' s' → r ≡ r'
is_following_exact κs a r r' s s' p q = p ∙ sym q

pub is_promoted_exact : (κs a r r' s s' : _) → is-promoted.Post κs a r s → is-promoted.Post κs a r' s' → r ≡ r'
is_promoted_exact κs a r r' s s' p q = p ∙ sym q

pub with_phase_exact : (κs a r r' s s' : _) → with-phase.Post κs a r s → with-phase.Post κs a r' s' → r ≡ r'
with_phase_exact κs a r r' s s' p q = p ∙ sym q

pub clock_sent_exact : (κs a r r' s s' : _) → clock_sent.Post κs a r s → clock_sent.Post κs a r' s' → r ≡ r'
clock_sent_exact κs a r r' s s' p q = p ∙ sym q
