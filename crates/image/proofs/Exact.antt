-- No second outcome meets a contract: neither another answer nor another byte. `F.Post κs a r s` is the `ensures` of F as it stands in
-- src/lib.rt, of the arguments a, the result r and what is left behind the references s.
use mathlib.Core.Path.{◌≡◌, sym, ◌∙◌}
use Rattle.image.proofs.fit.Reads as fit
use Rattle.image.proofs.save.Reads as save
use Rattle.image.proofs.load.Reads as load
use Rattle.image.proofs.retire.Reads as retire

pub fit_exact : (κs a r r' s s' : _) → fit.Post κs a r s → fit.Post κs a r' s' → (r ≡ r') × (s.1.0.now ≡ s'.1.0.now)
fit_exact κs a r r' s s' p q = (p.answer ∙ sym q.answer, p.leaves ∙ sym q.leaves)

pub save_exact : (κs a r r' s s' : _) → save.Post κs a r s → save.Post κs a r' s' → (r ≡ r') × (s.1.0.now ≡ s'.1.0.now)
save_exact κs a r r' s s' p q = (p.answer ∙ sym q.answer, p.leaves ∙ sym q.leaves)

pub load_exact : (κs a r r' s s' : _) → load.Post κs a r s → load.Post κs a r' s' → r ≡ r'
load_exact κs a r r' s s' p q = p ∙ sym q

pub retire_exact : (κs a r r' s s' : _) → retire.Post κs a r s → retire.Post κs a r' s' → (r ≡ r') × (s.1.1.0.now ≡ s'.1.1.0.now)
retire_exact κs a r r' s s' p q = (p.answer ∙ sym q.answer, p.leaves ∙ sym q.leaves)
