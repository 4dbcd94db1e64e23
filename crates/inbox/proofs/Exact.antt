-- No second outcome meets a contract. `F.Post κs a r s` is the `ensures` of F as it stands in src/lib.rt, of the arguments a and the result r.
use Rattle.std.proofs.Common.{◌≡◌, sym, ◌∙◌}
use Rattle.inbox.proofs.has_end.Reads as has_end
use Rattle.inbox.proofs.first_word.Reads as first_word
use Rattle.inbox.proofs.without_val.Reads as without_val
use Rattle.inbox.proofs.without_epoch.Reads as without_epoch

pub has_end_exact : (κs a r r' s s' : _) → has_end.Post κs a r s → has_end.Post κs a r' s' → r ≡ r'
has_end_exact κs a r r' s s' p q = p ∙ sym q

pub first_word_exact : (κs a r r' s s' : _) → first_word.Post κs a r s → first_word.Post κs a r' s' → r ≡ r'
first_word_exact κs a r r' s s' p q = p ∙ sym q

pub without_val_exact : (κs a r r' s s' : _) → without_val.Post κs a r s → without_val.Post κs a r' s' → r ≡ r'
without_val_exact κs a r r' s s' p q = p ∙ sym q

pub without_epoch_exact : (κs a r r' s s' : _) → without_epoch.Post κs a r s → without_epoch.Post κs a r' s' → r ≡ r'
without_epoch_exact κs a r r' s s' p q = p ∙ sym q
