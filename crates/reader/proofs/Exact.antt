-- No second outcome meets a contract: two results, and two readers that are left, are equal where both do.
-- `F.Post κs a r s` is the `ensures` of F as it stands in src/lib.rt, of the lifetimes κs, the arguments a, the result r and what the
-- references hold at the end, s. Of a part of the file it is what stands there that is settled.
-- Of `open`, `next` and `current` the `ensures` is that of their clauses, in every model of the logic.
use mathlib.Core.Path.{◌≡◌, sym, ◌∙◌}
use seplogic.Ra.Ura.{Ura}
use base.Logic.{SProp, ent, sep, fst∗, snd∗}
use prog.Memory.{Memory}
use prog.Routine.{Routine}
use types.Logic.{Logic}
use contract.Monad.{Fun, fact, fact_i, fact_use}
use Rattle.reader.proofs.count.Reads as count
use Rattle.reader.proofs.event_at.Reads as event-at
use Rattle.reader.proofs.place_after.Reads as place_after
use Rattle.reader.proofs.read_at.Reads as read_at
use Rattle.reader.specs.contracts.open as opened
use Rattle.reader.specs.contracts.next as next
use Rattle.reader.specs.contracts.current as current

pub count_exact : (κs a r r' s s' : _) → count.Post κs a r s → count.Post κs a r' s' → r ≡ r'
count_exact κs a r r' s s' p q = p ∙ sym q

pub event_at_exact : (κs a r r' s s' : _) → event-at.Post κs a r s → event-at.Post κs a r' s' → r.now ≡ r'.now
event_at_exact κs a r r' s s' p q = p ∙ sym q

pub place_after_exact : (κs a r r' s s' : _) → place_after.Post κs a r s → place_after.Post κs a r' s' → r ≡ r'
place_after_exact κs a r r' s s' p q = p ∙ sym q

pub read_at_exact : (κs a r r' s s' : _) → read_at.Post κs a r s → read_at.Post κs a r' s' → r.now ≡ r'.now
read_at_exact κs a r r' s s' p q = p ∙ sym q

module _ {M : Type 1} {𝓤 : Ura M} (𝓛 : Logic 𝓤) (mem : Memory → SProp 𝓤) (run : Routine → Fun 𝓤) where
  together : {P Q R : Type 0} → (P → Q → R) → ent 𝓤 (sep 𝓤 (fact 𝓤 P) (fact 𝓤 Q)) (fact 𝓤 R)
  together {P} {Q} {R} f =
      fact_use 𝓤 P (fst∗ 𝓤 (fact 𝓤 P) (fact 𝓤 Q)) (λ p. fact_use 𝓤 Q (snd∗ 𝓤 (fact 𝓤 P) (fact 𝓤 Q)) (λ q. fact_i 𝓤 R _ (f p q)))

  pub open_exact : (κs a r r' s s' : _)
      → ent 𝓤 (sep 𝓤 ((opened.clauses 𝓛 mem run κs a).ensures tt r s) ((opened.clauses 𝓛 mem run κs a).ensures tt r' s')) (fact 𝓤 (r ≡ r'))
  open_exact κs a r r' s s' = together (λ p q. p ∙ sym q)

  pub next_exact : (κs a r r' s s' : _)
      → ent 𝓤 (sep 𝓤 ((next.clauses 𝓛 mem run κs a).ensures tt r s) ((next.clauses 𝓛 mem run κs a).ensures tt r' s'))
      (fact 𝓤 ((r.now ≡ r'.now) × (s.0.now ≡ s'.0.now)))
  next_exact κs a r r' s s' = together (λ p q. (p.0 ∙ sym q.0, p.1 ∙ sym q.1))

  pub current_exact : (κs a r r' s s' : _)
      → ent 𝓤 (sep 𝓤 ((current.clauses 𝓛 mem run κs a).ensures tt r s) ((current.clauses 𝓛 mem run κs a).ensures tt r' s')) (fact 𝓤 (r.now ≡ r'.now))
  current_exact κs a r r' s s' = together (λ p q. p ∙ sym q)
