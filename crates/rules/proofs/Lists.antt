-- Laws of lists that hold whatever stands in them: what holds of all, and counting.
use mathlib.Core.Bool.{Bool, ◌||◌, false, true}
use mathlib.Core.List.{List, [], ◌++◌, ◌∷◌}
use mathlib.Core.Path.{◌∙◌, ◌≡◌, ap, refl}
use Prim.Native.Nat.{◌+◌, ◌≤◌}
use borrow.Author.Tests.{eqb-false, eqb-true}
use lib.Dec.{eqb}
use lib.ListN.{drop, length, length-append}
use native.Mathlib.Nat.{le_refl}
use native.Mathlib.Omega.{arith}
use Rattle.slots.proofs.Lists.{every_head, every_in, every-nil, keep_append, keep_in, keep-nil, keep_out}
use Rattle.slots.proofs.Tests.{or_false}
use Rattle.slots.specs.Slots.{any, count, every, folded, keep, pick}
use Rattle.rules.proofs.Choices.{by_cases, clash, pick_case}

-- P holds of each
abbrev pub All {ℓ κ} : {X : Type ℓ} → (X → Type κ) → List X → Type κ
All P [] = Unit
All P (x ∷ xs) = P x × All P xs

module _ {ℓ κ} {X : Type ℓ} (P : X → Type κ) where
  pub all_append : (s t : List X) → All P s → All P t → All P (s ++ t)
  all_append [] t a b = b
  all_append (x ∷ s) t a b = (a.0, all_append s t a.1 b)

  pub all_left : (s t : List X) → All P (s ++ t) → All P s
  all_left [] t a = tt
  all_left (x ∷ s) t a = (a.0, all_left s t a.1)

  pub all_right : (s t : List X) → All P (s ++ t) → All P t
  all_right [] t a = a
  all_right (x ∷ s) t a = all_right s t a.1

  pub all_map {ι} : (Q : X → Type ι) → ((x : X) → P x → Q x) → (s : List X) → All P s → All Q s
  all_map Q f [] a = tt
  all_map Q f (x ∷ s) a = (f x a.0, all_map Q f s a.1)

  pub all_tail : (s : List X) → All P s → All P (drop 1 s)
  all_tail [] a = tt
  all_tail (x ∷ s) a = a.1

pub all_keep {κ} : {X : Type 0} (P : X → Type κ) (t : X → Bool) (s : List X) → All P s → All P (keep t s)
unfolding keep
all_keep P t [] a = tt
all_keep {X = X} P t (x ∷ s) a = pick_case (All P) (t x) (x ∷ keep t s) (keep t s) (λ _. (a.0, all_keep P t s a.1)) (λ _. all_keep P t s a.1)

-- the test of each, and back
pub every-all : {X : Type 0} (t : X → Bool) (l : List X) → every t l ≡ true → All (λ x. t x ≡ true) l
every-all t [] h = tt
every-all t (x ∷ l) h = let a = every_head t x l h in (a.0, every-all t l a.1)

pub all-every : {X : Type 0} (t : X → Bool) (l : List X) → All (λ x. t x ≡ true) l → every t l ≡ true
all-every t [] h = every-nil t
all-every t (x ∷ l) h = every_in t x l h.0 ∙ all-every t l h.1

-- a test that follows from another
pub every-each : {X : Type 0} (t u : X → Bool) → ((x : X) → t x ≡ true → u x ≡ true) → (l : List X) → every t l ≡ true → every u l ≡ true
every-each t u f l h = all-every u l (all_map (λ x. t x ≡ true) (λ x. u x ≡ true) f l (every-all t l h))

-- what each step keeps is kept by all of them
pub folded_keeps {κ ι} : {A B : Type 0} (P : B → Type κ) (Q : A → Type ι) (f : B → A → B) → ((b : B) (x : A) → Q x → P b → P (f b x)) → (xs : List A) (b : B) → All Q xs → P b → P (folded f b xs)
unfolding folded
folded_keeps P Q f h [] b a p = p
folded_keeps P Q f h (x ∷ xs) b a p = folded_keeps P Q f h xs (f b x) a.1 (h b x a.0 p)

pub folded-append : {A B : Type 0} (f : B → A → B) (b : B) (xs ys : List A) → folded f b (xs ++ ys) ≡ folded f (folded f b xs) ys
unfolding folded
folded-append f b [] ys = refl
folded-append f b (x ∷ xs) ys = folded-append f (f b x) xs ys

pub any_append : {X : Type 0} (t : X → Bool) (s u : List X) → any t (s ++ u) ≡ any t s || any t u
unfolding any
any_append t [] u = refl
any_append t (x ∷ s) u = ap (λ (b : Bool). t x || b) (any_append t s u) ∙ or_assoc (t x) (any t s) (any t u)
  where
    or_assoc : (a b c : Bool) → a || (b || c) ≡ (a || b) || c
    or_assoc true b c = refl
    or_assoc false b c = refl

-- counting
module _ {X : Type 0} (t : X → Bool) where
  pub count_none : (s : List X) → any t s ≡ false → count t s ≡ 0
  unfolding any keep
  count_none [] h = refl
  count_none (x ∷ s) h = let a = or_false (t x) (any t s) h in rw a.0 (count_none s a.1)

  pub none-count : (s : List X) → count t s ≡ 0 → any t s ≡ false
  unfolding any keep
  none-count [] h = refl
  none-count (x ∷ s) h = go (t x) h (none-count s)
    where
      go : (b : Bool) → length (pick b (x ∷ keep t s) (keep t s)) ≡ 0 → (count t s ≡ 0 → any t s ≡ false) → b || any t s ≡ false
      go true q r = absurd (omega arith)
      go false q r = r q

  pub any-count : (s : List X) → any t s ≡ true → 1 ≤ count t s
  any-count s h = by_cases (eqb (count t s) 0) (λ z. clash h (none-count s (eqb-true (count t s) 0 z))) (λ z. let k = eqb-false (count t s) 0 z in omega arith)

  pub count-append : (s u : List X) → count t (s ++ u) ≡ count t s + count t u
  count-append s u = ap length (keep_append t s u) ∙ length-append (keep t s) (keep t u)

  pub count-one : (x : X) → t x ≡ true → count t (x ∷ []) ≡ 1
  count-one x h = ap length (keep_in t x [] h ∙ ap (λ (l : List X). x ∷ l) (keep-nil t))

  pub count_other : (x : X) → t x ≡ false → count t (x ∷ []) ≡ 0
  count_other x h = ap length (keep_out t x [] h ∙ keep-nil t)

  -- one taken from the front
  pub count_tail : (s : List X) → count t (drop 1 s) ≤ count t s
  unfolding keep
  count_tail [] = le_refl (length (keep t []))
  count_tail (x ∷ s) = pick_case (λ (l : List X). count t s ≤ length l) (t x) (x ∷ keep t s) (keep t s) (λ _. omega arith) (λ _. le_refl (count t s))
