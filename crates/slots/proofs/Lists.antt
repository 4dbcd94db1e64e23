-- Laws of keep, without, any, every and folded, over the element and the test.
use mathlib.Core.Path.{◌≡◌, refl, ap, ◌∙◌}
use mathlib.Core.Bool.{Bool, true, false, not, ◌||◌, false≢true}
use mathlib.Core.List.{List, [], ◌∷◌, ◌++◌, map}
use Prim.Native.Nat.{suc, ◌+◌, ◌≤◌, zero-le, suc-le-suc}
use native.Mathlib.Omega.{arith}
use lib.ListN.{length}
use Rattle.slots.specs.Slots.{pick, keep, without, any, every, count, folded}
use Rattle.slots.proofs.Tests.{and_true}

-- ---- one element

module _ {A : Type 0} (p : A → Bool) where
  pub keep-nil : keep p [] ≡ []
  unfolding keep
  keep-nil = refl

  pub keep_in : (x : A) (xs : List A) → p x ≡ true → keep p (x ∷ xs) ≡ x ∷ keep p xs
  unfolding keep
  keep_in x xs e = rw e

  pub keep_out : (x : A) (xs : List A) → p x ≡ false → keep p (x ∷ xs) ≡ keep p xs
  unfolding keep
  keep_out x xs e = rw e

  pub without-nil : without p [] ≡ []
  unfolding without
  without-nil = refl

  pub without_here : (x : A) (xs : List A) → p x ≡ true → without p (x ∷ xs) ≡ xs
  unfolding without
  without_here x xs e = rw e

  pub without-later : (x : A) (xs : List A) → p x ≡ false → without p (x ∷ xs) ≡ x ∷ without p xs
  unfolding without
  without-later x xs e = rw e

  pub any-nil : any p [] ≡ false
  unfolding any
  any-nil = refl

  pub any_here : (x : A) (xs : List A) → p x ≡ true → any p (x ∷ xs) ≡ true
  unfolding any
  any_here x xs e = rw e

  pub any-later : (x : A) (xs : List A) → p x ≡ false → any p (x ∷ xs) ≡ any p xs
  unfolding any
  any-later x xs e = rw e

  pub every-nil : every p [] ≡ true
  unfolding every
  every-nil = refl

  pub every_in : (x : A) (xs : List A) → p x ≡ true → every p (x ∷ xs) ≡ every p xs
  unfolding every
  every_in x xs e = rw e

  pub every_out : (x : A) (xs : List A) → p x ≡ false → every p (x ∷ xs) ≡ false
  unfolding every
  every_out x xs e = rw e

  -- what holds of each holds of the first and of the others
  pub every_head : (x : A) (xs : List A) → every p (x ∷ xs) ≡ true → (p x ≡ true) × (every p xs ≡ true)
  unfolding every
  every_head x xs e = and_true (p x) (every p xs) e

  pub every_append : (xs ys : List A) → every p xs ≡ true → every p ys ≡ true → every p (xs ++ ys) ≡ true
  every_append [] ys e f = f
  every_append (x ∷ xs) ys e f = every_in x (xs ++ ys) (every_head x xs e).0 ∙ every_append xs ys (every_head x xs e).1 f

  pub every_one : (x : A) → p x ≡ true → every p (x ∷ []) ≡ true
  every_one x e = every_in x [] e ∙ every-nil

  pub every_map : {B : Type 0} (g : B → A) (xs : List B) → ((x : B) → p (g x) ≡ true) → every p (map g xs) ≡ true
  every_map g [] h = every-nil
  every_map g (x ∷ xs) h = every_in (g x) (map g xs) (h x) ∙ every_map g xs h

  pub any_map : {B : Type 0} (g : B → A) (xs : List B) → any p (map g xs) ≡ any (λ (x : B). p (g x)) xs
  unfolding any
  any_map g [] = refl
  any_map g (x ∷ xs) = ap (λ (b : Bool). p (g x) || b) (any_map g xs)

  -- ---- keep

  pub keep-length : (xs : List A) → length (keep p xs) ≤ length xs
  unfolding keep
  keep-length [] = zero-le
  keep-length (x ∷ xs) = go (p x) (keep-length xs)
    where
      go : (b : Bool) → length (keep p xs) ≤ length xs → length (pick b (x ∷ keep p xs) (keep p xs)) ≤ suc (length xs)
      go true h = suc-le-suc h
      go false h = omega arith

  pub keep_append : (xs ys : List A) → keep p (xs ++ ys) ≡ keep p xs ++ keep p ys
  unfolding keep
  keep_append [] ys = refl
  keep_append (x ∷ xs) ys = go (p x) (keep_append xs ys)
    where
      go : (b : Bool) → keep p (xs ++ ys) ≡ keep p xs ++ keep p ys → pick b (x ∷ keep p (xs ++ ys)) (keep p (xs ++ ys)) ≡ pick b (x ∷ keep p xs) (keep p xs) ++ keep p ys
      go true h = ap (λ (l : List A). x ∷ l) h
      go false h = h

-- what holds of each holds of those that are kept
pub keep-every : {A : Type 0} (p q : A → Bool) (xs : List A) → every q xs ≡ true → every q (keep p xs) ≡ true
unfolding keep
keep-every p q [] e = e
keep-every p q (x ∷ xs) e = go (p x) (keep-every p q xs (every_head q x xs e).1)
  where
    go : (b : Bool) → every q (keep p xs) ≡ true → every q (pick b (x ∷ keep p xs) (keep p xs)) ≡ true
    go true h = every_in q x (keep p xs) (every_head q x xs e).0 ∙ h
    go false h = h

-- where the test holds of one, leaving those out makes the list shorter
pub keep_less : {A : Type 0} (p : A → Bool) (xs : List A) → any p xs ≡ true → suc (length (keep (λ (x : A). not (p x)) xs)) ≤ length xs
unfolding keep any
keep_less p [] e = absurd (false≢true e)
keep_less {A} p (x ∷ xs) e = go (p x) (keep_less p xs) (keep-length (λ (y : A). not (p y)) xs) e
  where
    go : (b : Bool) → (any p xs ≡ true → suc (length (keep (λ (y : A). not (p y)) xs)) ≤ length xs) → length (keep (λ (y : A). not (p y)) xs) ≤ length xs
        → b || any p xs ≡ true → suc (length (pick (not b) (x ∷ keep (λ (y : A). not (p y)) xs) (keep (λ (y : A). not (p y)) xs))) ≤ suc (length xs)
    go true ih l h = suc-le-suc l
    go false ih l h = suc-le-suc (ih h)

-- those that a test holds of, and the others
pub count_split : {A : Type 0} (p : A → Bool) (xs : List A) → count p xs + count (λ (x : A). not (p x)) xs ≡ length xs
unfolding keep
count_split p [] = refl
count_split {A} p (x ∷ xs) = go (p x) (count_split p xs)
  where
    go : (b : Bool) → count p xs + count (λ (y : A). not (p y)) xs ≡ length xs
        → length (pick b (x ∷ keep p xs) (keep p xs)) + length (pick (not b) (x ∷ keep (λ (y : A). not (p y)) xs) (keep (λ (y : A). not (p y)) xs)) ≡ suc (length xs)
    go true h = omega arith
    go false h = omega arith

-- ---- folding

pub folded-nil : {A B : Type 0} (f : B → A → B) (b : B) → folded f b [] ≡ b
unfolding folded
folded-nil f b = refl

pub folded-cons : {A B : Type 0} (f : B → A → B) (b : B) (x : A) (xs : List A) → folded f b (x ∷ xs) ≡ folded f (f b x) xs
unfolding folded
folded-cons f b x xs = refl

pub folded_map : {A B C : Type 0} (f : C → B → C) (g : A → B) (c : C) (xs : List A) → folded (λ (d : C) (x : A). f d (g x)) c xs ≡ folded f c (map g xs)
unfolding folded
folded_map f g c [] = refl
folded_map f g c (x ∷ xs) = folded_map f g (f c (g x)) xs
