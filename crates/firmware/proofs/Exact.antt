-- No second outcome meets a contract: neither another answer nor another byte. `F.Post κs a r s` is the `ensures` of F as it stands in
-- src/lib.rt, of the arguments a, the result r and what is left behind the references s.
use mathlib.Core.Path.{◌≡◌, sym, ◌∙◌}
use Rattle.firmware.proofs.pair_step.Reads as Pair-step
use Rattle.firmware.proofs.pair_save.Reads as pair-save
use Rattle.firmware.proofs.pair_load.Reads as pair-load
use Rattle.firmware.proofs.pair_retire.Reads as pair-retire

pub pair_step_exact : (κs a r r' s s' : _) → Pair-step.Post κs a r s → Pair-step.Post κs a r' s'
    → (r ≡ r') × (s.1.0.now ≡ s'.1.0.now) × (s.1.1.1.0.now ≡ s'.1.1.1.0.now)
pair_step_exact κs a r r' s s' p q = (p.answer ∙ sym q.answer, p.leaves ∙ sym q.leaves, p.shows ∙ sym q.shows)

pub pair_save_exact : (κs a r r' s s' : _) → pair-save.Post κs a r s → pair-save.Post κs a r' s' → (r ≡ r') × (s.1.0.now ≡ s'.1.0.now)
pair_save_exact κs a r r' s s' p q = (p.answer ∙ sym q.answer, p.leaves ∙ sym q.leaves)

pub pair_load_exact : (κs a r r' s s' : _) → pair-load.Post κs a r s → pair-load.Post κs a r' s' → r ≡ r'
pair_load_exact κs a r r' s s' p q = p ∙ sym q

pub pair_retire_exact : (κs a r r' s s' : _) → pair-retire.Post κs a r s → pair-retire.Post κs a r' s' → (r ≡ r') × (s.1.1.0.now ≡ s'.1.1.0.now)
pair_retire_exact κs a r r' s s' p q = (p.answer ∙ sym q.answer, p.leaves ∙ sym q.leaves)
