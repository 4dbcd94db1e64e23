-- Operation numbers in lists: which are listed, and how many there can be.
use mathlib.Core.Bool.{◌||◌, false, not, true}
use mathlib.Core.List.{List, [], ◌++◌, ◌∷◌, map}
use mathlib.Core.Logic.{◌⊎◌, inl, inr}
use mathlib.Core.Path.{◌∙◌, ◌≡◌, ap, refl, subst, sym}
use Prim.Native.Nat.{◌≤◌, zero-le, ℕ}
use borrow.Author.Tests.{eq-eqb, eqb-false, eqb-true, ne_eqb, not-true}
use lib.Dec.{eqb}
use lib.ListN.{length}
use native.Mathlib.Omega.{arith}
use Rattle.slots.proofs.Lists.{keep_in, keep_less, keep_out}
use Rattle.slots.proofs.Tests.{and_true, both, or_false}
use Rattle.slots.specs.Slots.{any, keep}
use Rattle.rules.proofs.Choices.{by_cases, clash, or_left, or_right, or_true}
use Rattle.rules.proofs.Effect.{Deed, begun, calm, effect}
use Rattle.rules.proofs.Lists.{All, all_map, any_append}
use Rattle.rules.specs.Boundary.{other_op, uncertain}
use Rattle.rules.specs.Guest.{listed, ops_of}
use Rattle.rules.specs.Instruction.{next, next_op, perform}
use Rattle.rules.specs.Program.{Setup, exec, instr}
use Rattle.rules.specs.Sound.{once}
use Rattle.rules.specs.declared.Guest.{Guest}
use Rattle.rules.specs.declared.Interrupt.{Interrupt}
use Rattle.rules.specs.declared.OpNo.{OpNo}
use Rattle.rules.specs.declared.Ran.{Ran}

pub same_op : (a b : OpNo) → a.0 ≡ b.0 → a ≡ b
same_op a b q = λ k. record { 0 = q k }

pub listed-append : (n : OpNo) (s t : List OpNo) → listed n (s ++ t) ≡ listed n s || listed n t
unfolding listed
listed-append n s t = any_append (λ (o : OpNo). eqb o.0 n.0) s t

pub listed_cons : (n o : OpNo) (l : List OpNo) → listed n (o ∷ l) ≡ eqb o.0 n.0 || listed n l
unfolding listed any
listed_cons n o l = refl

pub listed_nil : (n : OpNo) → listed n [] ≡ false
unfolding listed any
listed_nil n = refl

-- one more at the end: it is listed, what was listed still is, and nothing else
pub listed-last : (n : OpNo) (l : List OpNo) → listed n (l ++ (n ∷ [])) ≡ true
listed-last n l = listed-append n l (n ∷ []) ∙ or_right (listed n l) (listed n (n ∷ [])) (listed_cons n n [] ∙ or_left (eqb n.0 n.0) (listed n []) (eq-eqb n.0 n.0 refl))

pub listed_more : (n : OpNo) (l m : List OpNo) → listed n l ≡ true → listed n (l ++ m) ≡ true
listed_more n l m h = listed-append n l m ∙ or_left (listed n l) (listed n m) h

pub unlisted_last : (m n : OpNo) (l : List OpNo) → listed m l ≡ false → (n.0 ≡ m.0 → ⊥) → listed m (l ++ (n ∷ [])) ≡ false
unlisted_last m n l p q = rw (listed-append m l (n ∷ []), p, listed_cons m n [], ne_eqb n.0 m.0 q) (listed_nil m)

-- what holds of all holds of one that is listed
pub all_listed {κ} : (P : OpNo → Type κ) (n : OpNo) (l : List OpNo) → All P l → listed n l ≡ true → P n
all_listed P n [] a h = clash h (listed_nil n)
all_listed P n (o ∷ l) a h = go (or_true (eqb o.0 n.0) (listed n l) (sym (listed_cons n o l) ∙ h)) (all_listed P n l a.1)
  where
    go : (eqb o.0 n.0 ≡ true) ⊎ (listed n l ≡ true) → (listed n l ≡ true → P n) → P n
    go (inl k) r = subst P (same_op o n (eqb-true o.0 n.0 k)) a.0
    go (inr k) r = r k

-- each is listed in its own list
pub all_self : (l : List OpNo) → All (λ n. listed n l ≡ true) l
all_self [] = tt
all_self (o ∷ l) = (
  listed_cons o o l ∙ or_left (eqb o.0 o.0) (listed o l) (eq-eqb o.0 o.0 refl),
  all_map (λ (n : OpNo). listed n l ≡ true) (λ (n : OpNo). listed n (o ∷ l) ≡ true) (λ n h. listed_cons n o l ∙ or_right (eqb o.0 n.0) (listed n l) h) l (all_self l),
)

-- not listed: each is another
pub unlisted : (n : OpNo) (l : List OpNo) → listed n l ≡ false → All (λ m. m.0 ≡ n.0 → ⊥) l
unlisted n [] h = tt
unlisted n (o ∷ l) h = let q = or_false (eqb o.0 n.0) (listed n l) (sym (listed_cons n o l) ∙ h) in (eqb-false o.0 n.0 q.0, unlisted n l q.1)

-- the others stay listed when one leaves
listed-keep : (m n : OpNo) (l : List OpNo) → (m.0 ≡ n.0 → ⊥) → listed m l ≡ true → listed m (keep (other_op n) l) ≡ true
listed-keep m n [] q h = clash h (listed_nil m)
listed-keep m n (o ∷ l) q h = go (or_true (eqb o.0 m.0) (listed m l) (sym (listed_cons m o l) ∙ h)) (listed-keep m n l q)
  where
    go : (eqb o.0 m.0 ≡ true) ⊎ (listed m l ≡ true) → (listed m l ≡ true → listed m (keep (other_op n) l) ≡ true) → listed m (keep (other_op n) (o ∷ l)) ≡ true
    go (inl k) r =
        let e : o.0 ≡ m.0 = eqb-true o.0 m.0 k in
        ap (listed m) (keep_in (other_op n) o l (ap not (ne_eqb o.0 n.0 (λ z. q (sym e ∙ z))))) ∙ listed_cons m o (keep (other_op n) l) ∙ or_left (eqb o.0 m.0) _ k
    go (inr k) r =
        by_cases (other_op n o)
        (λ x. ap (listed m) (keep_in (other_op n) o l x) ∙ listed_cons m o (keep (other_op n) l) ∙ or_right (eqb o.0 m.0) _ (r k))
        (λ x. ap (listed m) (keep_out (other_op n) o l x) ∙ r k)

-- ---- no operation twice

abbrev pub Distinct : List OpNo → Type 0
Distinct [] = Unit
Distinct (o ∷ os) = (listed o os ≡ false) × Distinct os

pub once_distinct : (l : List OpNo) → once l ≡ true → Distinct l
unfolding once
once_distinct [] h = tt
once_distinct (o ∷ l) h = let a = and_true (not (listed o l)) (once l) h in (not-true (listed o l) a.0, once_distinct l a.1)

pub distinct_once : (l : List OpNo) → Distinct l → once l ≡ true
unfolding once
distinct_once [] h = refl
distinct_once (o ∷ l) h = both (ap not h.0) (distinct_once l h.1)

pub distinct_last : (l : List OpNo) (n : OpNo) → Distinct l → listed n l ≡ false → Distinct (l ++ (n ∷ []))
distinct_last [] n d h = (listed_nil n, tt)
distinct_last (o ∷ l) n d h =
    let q = or_false (eqb o.0 n.0) (listed n l) (sym (listed_cons n o l) ∙ h) in
    (unlisted_last o n l d.0 (λ z. eqb-false o.0 n.0 q.0 (sym z)), distinct_last l n d.1 q.1)

-- distinct numbers of a list are no more than the list is long
pub pigeon : (a b : List OpNo) → Distinct a → All (λ n. listed n b ≡ true) a → length a ≤ length b
unfolding listed
pigeon [] b d h = zero-le
pigeon (n ∷ a) b d h =
    let less = keep_less (λ (o : OpNo). eqb o.0 n.0) b h.0 in
    let rest : length a ≤ length (keep (other_op n) b) = pigeon a (keep (other_op n) b) d.1 (go a (unlisted n a d.0) h.1) in
    omega arith
  where
    go : (k : List OpNo) → All (λ m. m.0 ≡ n.0 → ⊥) k → All (λ m. listed m b ≡ true) k → All (λ m. listed m (keep (other_op n) b) ≡ true) k
    go [] x y = tt
    go (m ∷ k) x y = (listed-keep m n b x.0 y.0, go k x.1 y.1)

-- ---- the operations of interrupts

pub ops_append : (is js : List Interrupt) → ops_of (is ++ js) ≡ ops_of is ++ ops_of js
unfolding ops_of
ops_append [] js = refl
ops_append (i ∷ is) js = ap (λ (l : List OpNo). i.op ∷ l) (ops_append is js)

pub ops_last : (is : List Interrupt) (i : Interrupt) → ops_of (is ++ (i ∷ [])) ≡ ops_of is ++ (i.op ∷ [])
unfolding ops_of
ops_last is i = ops_append is (i ∷ [])

pub ops_uncertain : (l : List OpNo) → ops_of (map uncertain l) ≡ l
unfolding ops_of
ops_uncertain [] = refl
ops_uncertain (n ∷ l) = ap (λ (k : List OpNo). n ∷ k) (ops_uncertain l)

-- what was in the table is there after an instruction
pub exec-tabled : (S : Setup) (g : Guest) (c : ℕ) (n : OpNo) → listed n g.table ≡ true → listed n (exec S g c).guest.table ≡ true
unfolding exec
exec-tabled S g c n h = go (perform (instr S g) g (next S.count g) c) (effect (instr S g) g (next S.count g) c).deed
  where
    go : (r : Ran) → Deed g r → listed n r.guest.table ≡ true
    go r (calm a b d e) = rw b h
    go r (begun e a p f b d q) = rw b (listed_more n g.table (next_op g ∷ []) h)
