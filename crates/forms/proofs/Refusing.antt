-- A chain of two refusals: each comes where its test holds and none before it, and in no other situation.
use mathlib.Core.{Bool.{Bool, false, not, true}, Logic.◌↔◌, Path.{◌≡◌, ap, refl, sym}}
use Prim.Native.Nat.{◌<◌, ◌≤◌, ℕ}
use borrow.Author.Tests.{le-ltb, lt-ltb, ltb-false, ltb-true, not-false, not-true}
use lib.Dec.{ltb}
use native.Mathlib.Omega.{arith}
use Rattle.rules.proofs.{Answers.not_zero, Choices.clash}
use Rattle.rules.specs.Events.{number}
use Rattle.rules.specs.PairSlots.{answer_number}
use Rattle.rules.specs.declared.Refusal.{Refusal}
use Rattle.rules.specs.declared.Refusal.TheVariants.{TooShort}
use Rattle.rules.specs.Answer.{Answer}
use Rattle.forms.specs.Lent.{refusing}
use Rattle.std.specs.Prelude.{Ok}

-- the answer is the first refusal where x, the second where y and not x, and else 0
pub record Chain (x y : Bool) (why next : Refusal) (a : Answer) : Type 0 where
  pub first : answer_number a ≡ number why ↔ x ≡ true
  pub second : answer_number a ≡ number next ↔ (x ≡ false) × (y ≡ true)
  pub zero : answer_number a ≡ 0 ↔ (x ≡ false) × (y ≡ false)

pub chain : (x y : Bool) (why next : Refusal) → (number why ≡ number next → ⊥) → Chain x y why next (refusing x why (refusing y next (Ok tt)))
unfolding refusing answer_number
chain true y why next ne = record {
  first = (λ q. refl, λ q. refl);
  second = (λ q. absurd (ne q), λ q. clash refl q.0);
  zero = (λ q. absurd (let k = not_zero why in omega arith), λ q. clash refl q.0);
}
chain false true why next ne = record {
  first = (λ q. absurd (ne (sym q)), λ q. clash q refl);
  second = (λ q. (refl, refl), λ q. refl);
  zero = (λ q. absurd (let k = not_zero next in omega arith), λ q. clash refl q.1);
}
chain false false why next ne = record {
  first = (λ q. absurd (let k = not_zero why in omega arith), λ q. clash q refl);
  second = (λ q. absurd (let k = not_zero next in omega arith), λ q. clash q.1 refl);
  zero = (λ q. (refl, refl), λ q. refl);
}

-- refused where a test g fails, and then too short where n is below m: what writing into n lent bytes answers
pub record Fitting (g : Bool) (n m : ℕ) (why : Refusal) (a : Answer) : Type 0 where
  pub refused : answer_number a ≡ number why ↔ g ≡ false
  pub too_short : answer_number a ≡ 9 ↔ (g ≡ true) × (n < m)
  pub taken : answer_number a ≡ 0 ↔ (g ≡ true) × (m ≤ n)

pub fitting : (g : Bool) (n m : ℕ) (why : Refusal) → (number why ≡ 9 → ⊥) → Fitting g n m why (refusing (not g) why (refusing (ltb n m) TooShort (Ok tt)))
unfolding number
fitting g n m why ne =
    let c = chain (not g) (ltb n m) why TooShort ne in
    record {
      refused = (λ q. not-true g (c.first.0 q), λ q. c.first.1 (ap not q));
      too_short = (λ q. let r = c.second.0 q in (not-false g r.0, ltb-true n m r.1), λ r. c.second.1 (ap not r.0, lt-ltb n m r.1));
      taken = (λ q. let r = c.zero.0 q in (not-false g r.0, ltb-false n m r.1), λ r. c.zero.1 (ap not r.0, le-ltb n m r.1));
    }
