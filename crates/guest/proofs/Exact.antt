-- No second outcome meets a contract. `F.Post κs a r s` is the `ensures` of F as it stands in src/lib.rt, of the arguments a and the result r.
use Rattle.std.proofs.Common.{◌≡◌, sym, ◌∙◌}
use Rattle.guest.proofs.complete.Reads as complete
use Rattle.guest.proofs.instruction.Reads as instruction

pub complete_exact : (κs a r r' s s' : _) → complete.Post κs a r s → complete.Post κs a r' s' → r ≡ r'
complete_exact κs a r r' s s' p q = p ∙ sym q

pub instruction_exact : (κs a r r' s s' : _) → instruction.Post κs a r s → instruction.Post κs a r' s' → r ≡ r'
instruction_exact κs a r r' s s' p q = p ∙ sym q
