-- No second outcome meets a contract: two results, or two lists that are left, are equal where both do.
-- `F.Post κs a r s` is the `ensures` of F as it stands in src/lib.rt, of the lifetimes κs, the arguments a, the result r and what the
-- references hold at the end, s. Of a part of the file it is what stands there that is settled.
use mathlib.Core.Path.{◌≡◌, sym, ◌∙◌}
use Rattle.runfile.proofs.check.Reads as check
use Rattle.runfile.proofs.limit.Reads as limit
use Rattle.runfile.proofs.program.Reads as program
use Rattle.runfile.proofs.events.Reads as events
use Rattle.runfile.proofs.write.Reads as write

pub check_exact : (κs a r r' s s' : _) → check.Post κs a r s → check.Post κs a r' s' → r ≡ r'
check_exact κs a r r' s s' p q = p ∙ sym q

pub limit_exact : (κs a r r' s s' : _) → limit.Post κs a r s → limit.Post κs a r' s' → r ≡ r'
limit_exact κs a r r' s s' p q = p ∙ sym q

pub program_exact : (κs a r r' s s' : _) → program.Post κs a r s → program.Post κs a r' s' → r.now ≡ r'.now
program_exact κs a r r' s s' p q = p ∙ sym q

pub events_exact : (κs a r r' s s' : _) → events.Post κs a r s → events.Post κs a r' s' → r.now ≡ r'.now
events_exact κs a r r' s s' p q = p ∙ sym q

pub write_exact : (κs a r r' s s' : _) → write.Post κs a r s → write.Post κs a r' s' → (r ≡ r') × (s.1.1.1.0.now ≡ s'.1.1.1.0.now)
write_exact κs a r r' s s' p q = (p.answers ∙ sym q.answers, p.leaves ∙ sym q.leaves)
