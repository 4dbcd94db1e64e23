-- Between a list and its slots: what is laid out is seen again, and slots that are tight are what they hold, laid out.
use mathlib.Core.Path.{◌≡◌, refl, sym, ap, ap₂, ◌∙◌}
use native.Mathlib.Omega.{arith}
use mathlib.Core.Bool.{Bool, true, false}
use mathlib.Core.List.{List, [], ◌∷◌, ◌++◌}
use Prim.Native.Nat.{ℕ, zero, suc, ◌≤◌, ◌<◌}
use native.Mathlib.Nat.{le_of_suc-le-suc, not-suc-le-zero, le_of_lt}
use lib.ListN.{length, take, drop, set, replicate}
use Rattle.std.specs.Prelude.{min}
use Rattle.slots.specs.Slots.{pick, entries, padded, pushed, every, tight}
use Rattle.slots.proofs.Lists.{every_head}

module _ {A : Type 0} (z : A) where
  pub length-padded : (n : ℕ) (ys : List A) → length (padded n z ys) ≡ n
  unfolding padded
  length-padded zero ys = refl
  length-padded (suc n) [] = ap suc (length-padded n [])
  length-padded (suc n) (y ∷ ys) = ap suc (length-padded n ys)

  pub padded-nil : (n : ℕ) → padded n z [] ≡ replicate n z
  unfolding padded
  padded-nil zero = refl
  padded-nil (suc n) = ap (λ (l : List A). z ∷ l) (padded-nil n)

  -- k of them copied to the front of free slots: all, or as many as there is room for
  pub padded_copied : (n k : ℕ) (ys : List A) → k ≡ min (length ys) n → take k ys ++ drop k (replicate n z) ≡ padded n z ys
  unfolding padded
  padded_copied zero zero ys e = refl
  padded_copied zero (suc k) ys e = absurd (omega (arith, e))
  padded_copied (suc n) zero [] e = ap (λ (l : List A). z ∷ l) (sym (padded-nil n))
  padded_copied (suc n) (suc k) [] e = absurd (omega (arith, e))
  padded_copied (suc n) zero (y ∷ ys) e = absurd (omega (arith, e))
  padded_copied (suc n) (suc k) (y ∷ ys) e = ap (λ (l : List A). y ∷ l) (padded_copied n k ys (omega (arith, e)))

  -- one more, stored at the first free slot
  pub padded_push : (n : ℕ) (ys : List A) (a : A) → length ys < n → set (padded n z ys) (length ys) a ≡ padded n z (ys ++ (a ∷ []))
  unfolding padded
  padded_push zero ys a h = absurd (not-suc-le-zero h)
  padded_push (suc n) [] a h = refl
  padded_push (suc n) (y ∷ ys) a h = ap (λ (l : List A). y ∷ l) (padded_push n ys a (le_of_suc-le-suc h))

module _ {A : Type 0} (used : A → Bool) (z : A) (free : used z ≡ false) where
  -- what was laid is seen again
  pub entries-padded : (n : ℕ) (ys : List A) → every used ys ≡ true → length ys ≤ n → entries used (padded n z ys) ≡ ys
  unfolding entries padded
  entries-padded zero [] e h = refl
  entries-padded zero (y ∷ ys) e h = absurd (not-suc-le-zero h)
  entries-padded (suc n) [] e h = rw free
  entries-padded (suc n) (y ∷ ys) e h = rw (every_head used y ys e).0 (ap (λ (l : List A). y ∷ l) (entries-padded n ys (every_head used y ys e).1 (le_of_suc-le-suc h)))

  -- one more in laid slots
  pub pushed-padded : (n : ℕ) (ys : List A) (a : A) → every used ys ≡ true → length ys < n → pushed used (padded n z ys) a ≡ padded n z (ys ++ (a ∷ []))
  pushed-padded n ys a e h = ap (λ (l : List A). set (padded n z ys) (length l) a) (entries-padded n ys e (le_of_lt h)) ∙ padded_push z n ys a h

  -- laid slots are tight
  pub tight-padded : (is_zero : A → Bool) → is_zero z ≡ true → (n : ℕ) (ys : List A) → every used ys ≡ true → tight used is_zero (padded n z ys) ≡ true
  unfolding entries padded every
  tight-padded is_zero k zero ys e = refl
  tight-padded is_zero k (suc n) [] e = rw (free, k) (zeros n)
    where
      zeros : (m : ℕ) → every is_zero (padded m z []) ≡ true
      zeros zero = refl
      zeros (suc m) = rw k (zeros m)
  tight-padded is_zero k (suc n) (y ∷ ys) e = rw (every_head used y ys e).0 (tight-padded is_zero k n ys (every_head used y ys e).1)

-- tight slots are what they hold, laid out
module _ {A : Type 0} (used is_zero : A → Bool) (z : A) (zero_is : (x : A) → is_zero x ≡ true → x ≡ z) where
  all-zero : (xs : List A) → every is_zero xs ≡ true → xs ≡ padded (length xs) z []
  unfolding padded
  all-zero [] e = refl
  all-zero (x ∷ xs) e = ap₂ {C = List A} (λ a l. a ∷ l) (zero_is x (every_head is_zero x xs e).0) (all-zero xs (every_head is_zero x xs e).1)

  as_held : (xs : List A) → tight used is_zero xs ≡ true → xs ≡ padded (length xs) z (entries used xs)
  unfolding entries padded
  as_held [] e = refl
  as_held (x ∷ xs) e = go (used x) (as_held xs) e
    where
      go : (b : Bool) → (every is_zero (drop (length (entries used xs)) xs) ≡ true → xs ≡ padded (length xs) z (entries used xs)) → every is_zero (drop (length (pick b (x ∷ entries used xs) [])) (x ∷ xs)) ≡ true
          → x ∷ xs ≡ padded (length (x ∷ xs)) z (pick b (x ∷ entries used xs) [])
      go true ih h = ap (λ (l : List A). x ∷ l) (ih h)
      go false ih h = all-zero (x ∷ xs) h

  pub tight-laid : (n : ℕ) (xs : List A) → length xs ≡ n → tight used is_zero xs ≡ true → xs ≡ padded n z (entries used xs)
  tight-laid n xs l h = as_held xs h ∙ ap (λ (k : ℕ). padded k z (entries used xs)) l
