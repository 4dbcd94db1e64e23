-- The table of outstanding operations: "table ascending", from above n, "and ≤ the last number", as a fact.
use mathlib.Core.Bool.{Bool, ◌&&◌, true}
use mathlib.Core.List.{List, [], ◌++◌, ◌∷◌}
use mathlib.Core.Path.{◌≡◌, refl}
use Prim.Native.Nat.{◌<◌, ◌≤◌, suc, ℕ}
use borrow.Author.Tests.{le-leb, leb-true, lt-ltb, ltb-true}
use lib.Dec.{leb, ltb}
use native.Mathlib.Nat.{le_refl}
use native.Mathlib.Omega.{arith}
use Rattle.slots.proofs.Tests.{and_true, both}
use Rattle.slots.specs.Slots.{keep}
use Rattle.rules.proofs.Choices.{pick_case}
use Rattle.rules.proofs.Lists.{All, all_map}
use Rattle.rules.specs.GuestSound.{ascending}
use Rattle.rules.specs.declared.OpNo.{OpNo}

abbrev pub Ascends : ℕ → ℕ → List OpNo → Type 0
Ascends n last [] = Unit
Ascends n last (o ∷ os) = (n < o.0) × (o.0 ≤ last) × Ascends o.0 last os

-- the test, and back
pub ascending_fact : (n last : ℕ) (os : List OpNo) → ascending n last os ≡ true → Ascends n last os
unfolding ascending
ascending_fact n last [] h = tt
ascending_fact n last (o ∷ os) h =
    let a = and_true (ltb n o.0 && leb o.0 last) (ascending o.0 last os) h in
    let b = and_true (ltb n o.0) (leb o.0 last) a.0 in
    (ltb-true n o.0 b.0, leb-true o.0 last b.1, ascending_fact o.0 last os a.1)

pub fact_ascending : (n last : ℕ) (os : List OpNo) → Ascends n last os → ascending n last os ≡ true
unfolding ascending
fact_ascending n last [] h = refl
fact_ascending n last (o ∷ os) h = both (both (lt-ltb n o.0 h.0) (le-leb o.0 last h.1)) (fact_ascending o.0 last os h.2)

-- from further below, and to further above
pub ascends_wider : {m n last bound : ℕ} (os : List OpNo) → m ≤ n → last ≤ bound → Ascends n last os → Ascends m bound os
ascends_wider [] a b h = tt
ascends_wider (o ∷ os) a b h = let x = h.0 in let y = h.1 in (omega arith, omega arith, ascends_wider os (le_refl o.0) b h.2)

pub ascends_above : (n last : ℕ) (os : List OpNo) → Ascends n last os → All (λ o. n < o.0) os
ascends_above n last [] h = tt
ascends_above n last (o ∷ os) h = let k = h.0 in (k, all_map (λ (x : OpNo). o.0 < x.0) (λ (x : OpNo). n < x.0) (λ x q. omega arith) os (ascends_above o.0 last os h.2))

-- some leave the table
pub ascends_keep : (t : OpNo → Bool) (n last : ℕ) (os : List OpNo) → Ascends n last os → Ascends n last (keep t os)
unfolding keep
ascends_keep t n last [] h = tt
ascends_keep t n last (o ∷ os) h =
    let r = ascends_keep t o.0 last os h.2 in
    pick_case (Ascends n last) (t o) (o ∷ keep t os) (keep t os) (λ _. (h.0, h.1, r))
    (λ _. let k = h.0 in ascends_wider (keep t os) (omega arith) (le_refl last) r)

-- the next number enters
pub ascends_next : (n last : ℕ) (os : List OpNo) → n ≤ last → Ascends n last os → Ascends n (suc last) (os ++ (record { 0 = suc last } ∷ []))
ascends_next n last [] h a = (omega arith, le_refl (suc last), tt)
ascends_next n last (o ∷ os) h a = let k = a.1 in (a.0, omega arith, ascends_next o.0 last os k a.2)
