-- No second outcome meets a contract, whatever the elements are. `F.Post .. κs a r s` is the `ensures` of F as it stands in src/, of its type T, its
-- number N and what is known of them, the arguments a, the result r and what the references hold at the end, s.
use mathlib.Core.Path.{◌≡◌, sym, ◌∙◌}
use Rattle.words.proofs.Wrote.{wrote-once}
use Rattle.layout.proofs.put_array.Reads as put_array
use Rattle.layout.proofs.get_array.Reads as get_array
use Rattle.layout.proofs.fine_array.Reads as fine_array
use Rattle.layout.proofs.U32Stored.put.Reads as word_put
use Rattle.layout.proofs.U32Stored.get.Reads as word_get
use Rattle.layout.proofs.U32Stored.fine.Reads as word_fine
use Rattle.layout.proofs.OpNoStored.put.Reads as operation_put
use Rattle.layout.proofs.OpNoStored.get.Reads as operation_get
use Rattle.layout.proofs.OpNoStored.fine.Reads as operation_fine
use Rattle.layout.proofs.EpochNoStored.put.Reads as epoch_put
use Rattle.layout.proofs.EpochNoStored.get.Reads as epoch_get
use Rattle.layout.proofs.EpochNoStored.fine.Reads as epoch_fine
use Rattle.layout.proofs.BoolStored.put.Reads as flag_put
use Rattle.layout.proofs.BoolStored.get.Reads as flag_get
use Rattle.layout.proofs.BoolStored.fine.Reads as flag_fine
use Rattle.layout.proofs.RoleStored.put.Reads as role_put
use Rattle.layout.proofs.RoleStored.get.Reads as role_get
use Rattle.layout.proofs.RoleStored.fine.Reads as role_fine
use Rattle.layout.proofs.InterruptStored.put.Reads as interrupt_put
use Rattle.layout.proofs.InterruptStored.get.Reads as interrupt_get
use Rattle.layout.proofs.InterruptStored.fine.Reads as interrupt_fine
use Rattle.layout.proofs.MessageStored.put.Reads as message_put
use Rattle.layout.proofs.MessageStored.get.Reads as message_get
use Rattle.layout.proofs.MessageStored.fine.Reads as message_fine

pub put_array_exact : (T laws copy stored known clone cloned κs a r r' s s' : _)
    → put_array.Post T laws copy stored known clone cloned κs a r s
    → put_array.Post T laws copy stored known clone cloned κs a r' s'
    → s.1.0.now ≡ s'.1.0.now
put_array_exact T laws copy stored known clone cloned κs a r r' s s' p q = wrote-once p q

pub get_array_exact : (T N laws fits copy stored known clone cloned κs a r r' s s' : _)
    → get_array.Post T N laws fits copy stored known clone cloned κs a r s
    → get_array.Post T N laws fits copy stored known clone cloned κs a r' s'
    → r ≡ r'
get_array_exact T N laws fits copy stored known clone cloned κs a r r' s s' p q = p ∙ sym q

pub fine_array_exact : (T laws copy stored known clone cloned κs a r r' s s' : _)
    → fine_array.Post T laws copy stored known clone cloned κs a r s
    → fine_array.Post T laws copy stored known clone cloned κs a r' s'
    → r ≡ r'
fine_array_exact T laws copy stored known clone cloned κs a r r' s s' p q = p ∙ sym q

pub word_put_exact : (κs a r r' s s' : _) → word_put.Post κs a r s → word_put.Post κs a r' s' → s.1.0.now ≡ s'.1.0.now
word_put_exact κs a r r' s s' p q = wrote-once p q

pub word_get_exact : (κs a r r' s s' : _) → word_get.Post κs a r s → word_get.Post κs a r' s' → r ≡ r'
word_get_exact κs a r r' s s' p q = p ∙ sym q

pub word_fine_exact : (κs a r r' s s' : _) → word_fine.Post κs a r s → word_fine.Post κs a r' s' → r ≡ r'
word_fine_exact κs a r r' s s' p q = p ∙ sym q

pub operation_put_exact : (κs a r r' s s' : _) → operation_put.Post κs a r s → operation_put.Post κs a r' s' → s.1.0.now ≡ s'.1.0.now
operation_put_exact κs a r r' s s' p q = wrote-once p q

pub operation_get_exact : (κs a r r' s s' : _) → operation_get.Post κs a r s → operation_get.Post κs a r' s' → r ≡ r'
operation_get_exact κs a r r' s s' p q = p ∙ sym q

pub operation_fine_exact : (κs a r r' s s' : _) → operation_fine.Post κs a r s → operation_fine.Post κs a r' s' → r ≡ r'
operation_fine_exact κs a r r' s s' p q = p ∙ sym q

pub epoch_put_exact : (κs a r r' s s' : _) → epoch_put.Post κs a r s → epoch_put.Post κs a r' s' → s.1.0.now ≡ s'.1.0.now
epoch_put_exact κs a r r' s s' p q = wrote-once p q

pub epoch_get_exact : (κs a r r' s s' : _) → epoch_get.Post κs a r s → epoch_get.Post κs a r' s' → r ≡ r'
epoch_get_exact κs a r r' s s' p q = p ∙ sym q

pub epoch_fine_exact : (κs a r r' s s' : _) → epoch_fine.Post κs a r s → epoch_fine.Post κs a r' s' → r ≡ r'
epoch_fine_exact κs a r r' s s' p q = p ∙ sym q

pub flag_put_exact : (κs a r r' s s' : _) → flag_put.Post κs a r s → flag_put.Post κs a r' s' → s.1.0.now ≡ s'.1.0.now
flag_put_exact κs a r r' s s' p q = wrote-once p q

pub flag_get_exact : (κs a r r' s s' : _) → flag_get.Post κs a r s → flag_get.Post κs a r' s' → r ≡ r'
flag_get_exact κs a r r' s s' p q = p ∙ sym q

pub flag_fine_exact : (κs a r r' s s' : _) → flag_fine.Post κs a r s → flag_fine.Post κs a r' s' → r ≡ r'
flag_fine_exact κs a r r' s s' p q = p ∙ sym q

pub role_put_exact : (κs a r r' s s' : _) → role_put.Post κs a r s → role_put.Post κs a r' s' → s.1.0.now ≡ s'.1.0.now
role_put_exact κs a r r' s s' p q = wrote-once p q

pub role_get_exact : (κs a r r' s s' : _) → role_get.Post κs a r s → role_get.Post κs a r' s' → r ≡ r'
role_get_exact κs a r r' s s' p q = p ∙ sym q

pub role_fine_exact : (κs a r r' s s' : _) → role_fine.Post κs a r s → role_fine.Post κs a r' s' → r ≡ r'
role_fine_exact κs a r r' s s' p q = p ∙ sym q

pub interrupt_put_exact : (κs a r r' s s' : _) → interrupt_put.Post κs a r s → interrupt_put.Post κs a r' s' → s.1.0.now ≡ s'.1.0.now
interrupt_put_exact κs a r r' s s' p q = wrote-once p q

pub interrupt_get_exact : (κs a r r' s s' : _) → interrupt_get.Post κs a r s → interrupt_get.Post κs a r' s' → r ≡ r'
interrupt_get_exact κs a r r' s s' p q = p ∙ sym q

pub interrupt_fine_exact : (κs a r r' s s' : _) → interrupt_fine.Post κs a r s → interrupt_fine.Post κs a r' s' → r ≡ r'
interrupt_fine_exact κs a r r' s s' p q = p ∙ sym q

pub message_put_exact : (κs a r r' s s' : _) → message_put.Post κs a r s → message_put.Post κs a r' s' → s.1.0.now ≡ s'.1.0.now
message_put_exact κs a r r' s s' p q = wrote-once p q

pub message_get_exact : (κs a r r' s s' : _) → message_get.Post κs a r s → message_get.Post κs a r' s' → r ≡ r'
message_get_exact κs a r r' s s' p q = p ∙ sym q

pub message_fine_exact : (κs a r r' s s' : _) → message_fine.Post κs a r s → message_fine.Post κs a r' s' → r ≡ r'
message_fine_exact κs a r r' s s' p q = p ∙ sym q
