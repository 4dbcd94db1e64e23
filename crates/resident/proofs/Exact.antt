-- No second outcome meets the contract: the answer, the entry and the pair that is left are equal where both meet it.
use mathlib.Core.Path.{◌≡◌, refl, sym, ◌∙◌}
use Prim.Native.Nat.{ℕ}
use mathlib.Core.List.{List}
use seplogic.Ra.Ura.{Ura}
use base.Logic.{SProp}
use prog.Memory.{Memory}
use prog.Routine.{Routine}
use types.Logic.{Logic}
use contract.Monad.{Fun, fact}
use Rattle.rules.specs.declared.Pair.{Pair}
use Rattle.resident.specs.declared.Applied.{Applied}
use Rattle.resident.specs.Applies.{Applies}
use Rattle.resident.specs.contracts.apply as apply

-- the `ensures` of `apply`, as it stands in src/lib.rt, of the arguments a, the result r and what the references hold at the end, s
ensured : {M : Type 1} {𝓤 : Ura M} (𝓛 : Logic 𝓤) (mem : Memory → SProp 𝓤) (run : Routine → Fun 𝓤) (κs a g r s : _)
    → (apply.clauses 𝓛 mem run κs a).ensures g r s ≡ fact 𝓤 (Applies a.1.0.now a.0.now a.1.1.0.now r s.0.now)
ensured 𝓛 mem run κs a g r s = refl

pub apply_exact : (program : List ℕ) (came : Pair) (event : List ℕ) (r r' : Applied) (left left' : Pair) → Applies program came event r left → Applies program came event r' left' → (r ≡ r') × (left ≡ left')
apply_exact program came event r r' left left' p q = ((λ i. record { answer = (p.answer ∙ sym q.answer) i; shown = (p.shown ∙ sym q.shown) i }), p.pair ∙ sym q.pair)
