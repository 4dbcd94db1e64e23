-- No second outcome meets a contract. `F.Post κs a r s` is the `ensures` of F as it stands in src/, of the lifetimes κs, the arguments a,
-- the result r and what the references hold at the end, s.
use mathlib.Core.Path.{◌≡◌, sym, ◌∙◌}
use Rattle.words.proofs.Wrote.{wrote-once}
use Rattle.requests.proofs.answer.Reads as answer

-- the place, and what stands in B, in C and in the text
pub answer_exact : (κs a r r' s s' : _) → answer.Post κs a r s → answer.Post κs a r' s'
    → (r ≡ r') × (s.1.1.1.0.now ≡ s'.1.1.1.0.now) × (s.1.1.1.1.0.now ≡ s'.1.1.1.1.0.now) × (s.1.1.1.1.1.0.now ≡ s'.1.1.1.1.1.0.now)
answer_exact κs a r r' s s' p q = (p.counts ∙ sym q.counts, p.leaves_b ∙ sym q.leaves_b, p.leaves_c ∙ sym q.leaves_c, wrote-once p.wrote q.wrote)
