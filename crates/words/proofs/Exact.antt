-- No second outcome meets a contract: two results, or two lists that are left, are equal where both do.
-- `F.Post κs a r s` is the `ensures` of F as it stands in src/lib.rt, with the lifetimes κs, the arguments a, the result r and what the
-- references hold at the end, s: these theorems are of the contracts themselves.
use mathlib.Core.Path.{◌≡◌, sym, ◌∙◌}
use Rattle.words.proofs.Wrote.{wrote-once}
use Rattle.words.proofs.put8.Reads as put8
use Rattle.words.proofs.put16.Reads as put16
use Rattle.words.proofs.put32.Reads as put32
use Rattle.words.proofs.get8.Reads as get8
use Rattle.words.proofs.get16.Reads as get16
use Rattle.words.proofs.get32.Reads as get32

pub put8_exact : (κs a r r' s s' : _) → put8.Post κs a r s → put8.Post κs a r' s' → s.0.now ≡ s'.0.now
put8_exact κs a r r' s s' p q = wrote-once p q

pub put16_exact : (κs a r r' s s' : _) → put16.Post κs a r s → put16.Post κs a r' s' → s.0.now ≡ s'.0.now
put16_exact κs a r r' s s' p q = wrote-once p q

pub put32_exact : (κs a r r' s s' : _) → put32.Post κs a r s → put32.Post κs a r' s' → s.0.now ≡ s'.0.now
put32_exact κs a r r' s s' p q = wrote-once p q

pub get8_exact : (κs a r r' s s' : _) → get8.Post κs a r s → get8.Post κs a r' s' → r ≡ r'
get8_exact κs a r r' s s' p q = p ∙ sym q

pub get16_exact : (κs a r r' s s' : _) → get16.Post κs a r s → get16.Post κs a r' s' → r ≡ r'
get16_exact κs a r r' s s' p q = p ∙ sym q

pub get32_exact : (κs a r r' s s' : _) → get32.Post κs a r s → get32.Post κs a r' s' → r ≡ r'
get32_exact κs a r r' s s' p q = p ∙ sym q
