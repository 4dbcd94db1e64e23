-- No second outcome meets a contract. `F.Post κs a r s` is the `ensures` of F as it stands in src/lib.rt, of the arguments a and the result r.
use mathlib.Core.Path.{◌≡◌, sym, ◌∙◌}
use Rattle.message.proofs.worded.Reads as worded
use Rattle.message.proofs.int.Reads as int
use Rattle.message.proofs.interrupt_of.Reads as interrupt-of
use Rattle.message.proofs.of_kind.Reads as of_kind_lem

pub worded_exact : (κs a r r' s s' : _) → worded.Post κs a r s → worded.Post κs a r' s' → r ≡ r'
worded_exact κs a r r' s s' p q = p ∙ sym q

pub int_exact : (κs a r r' s s' : _) → int.Post κs a r s → int.Post κs a r' s' → r ≡ r'
int_exact κs a r r' s s' p q = p ∙ sym q

pub interrupt_of_exact : (κs a r r' s s' : _) → interrupt-of.Post κs a r s → interrupt-of.Post κs a r' s' → r ≡ r'
interrupt_of_exact κs a r r' s s' p q = p ∙ sym q

pub of_kind_exact : (κs a r r' s s' : _) → of_kind_lem.Post κs a r s → of_kind_lem.Post κs a r' s' → r ≡ r'
of_kind_exact κs a r r' s s' p q = p ∙ sym q
