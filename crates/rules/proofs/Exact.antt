-- No second outcome meets a contract. `F.Post κs a r s` is the `ensures` of F as it stands in src/lib.rt, of the arguments a and the result r.
use mathlib.Core.Path.{◌≡◌, sym, ◌∙◌}
use Rattle.rules.proofs.OpNoSlot.is_used.Reads as op_is_used
use Rattle.rules.proofs.OpNoSlot.is_zero.Reads as op_is_zero
use Rattle.rules.proofs.OpNoSlot.free.Reads as op_free
use Rattle.rules.proofs.InterruptSlot.is_used.Reads as interrupt_is_used
use Rattle.rules.proofs.InterruptSlot.is_zero.Reads as interrupt_is_zero
use Rattle.rules.proofs.InterruptSlot.free.Reads as interrupt_free
use Rattle.rules.proofs.MessageSlot.is_used.Reads as message_is_used
use Rattle.rules.proofs.MessageSlot.is_zero.Reads as message_is_zero
use Rattle.rules.proofs.MessageSlot.free.Reads as message_free
use Rattle.rules.proofs.U8FromRefusal.from.Reads as number_of

pub op_is_used_exact : (κs a r r' s s' : _) → op_is_used.Post κs a r s → op_is_used.Post κs a r' s' → r ≡ r'
op_is_used_exact κs a r r' s s' p q = p ∙ sym q

pub op_is_zero_exact : (κs a r r' s s' : _) → op_is_zero.Post κs a r s → op_is_zero.Post κs a r' s' → r ≡ r'
op_is_zero_exact κs a r r' s s' p q = p ∙ sym q

pub op_free_exact : (κs a r r' s s' : _) → op_free.Post κs a r s → op_free.Post κs a r' s' → r ≡ r'
op_free_exact κs a r r' s s' p q = p ∙ sym q

pub interrupt_is_used_exact : (κs a r r' s s' : _) → interrupt_is_used.Post κs a r s → interrupt_is_used.Post κs a r' s' → r ≡ r'
interrupt_is_used_exact κs a r r' s s' p q = p ∙ sym q

pub interrupt_is_zero_exact : (κs a r r' s s' : _) → interrupt_is_zero.Post κs a r s → interrupt_is_zero.Post κs a r' s' → r ≡ r'
interrupt_is_zero_exact κs a r r' s s' p q = p ∙ sym q

pub interrupt_free_exact : (κs a r r' s s' : _) → interrupt_free.Post κs a r s → interrupt_free.Post κs a r' s' → r ≡ r'
interrupt_free_exact κs a r r' s s' p q = p ∙ sym q

pub message_is_used_exact : (κs a r r' s s' : _) → message_is_used.Post κs a r s → message_is_used.Post κs a r' s' → r ≡ r'
message_is_used_exact κs a r r' s s' p q = p ∙ sym q

pub message_is_zero_exact : (κs a r r' s s' : _) → message_is_zero.Post κs a r s → message_is_zero.Post κs a r' s' → r ≡ r'
message_is_zero_exact κs a r r' s s' p q = p ∙ sym q

pub message_free_exact : (κs a r r' s s' : _) → message_free.Post κs a r s → message_free.Post κs a r' s' → r ≡ r'
message_free_exact κs a r r' s s' p q = p ∙ sym q

pub number_of_exact : (κs a r r' s s' : _) → number_of.Post κs a r s → number_of.Post κs a r' s' → r ≡ r'
number_of_exact κs a r r' s s' p q = p ∙ sym q
