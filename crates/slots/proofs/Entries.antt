-- The used slots: the front of an array.
use mathlib.Core.Path.{◌≡◌, refl, sym, ap, ◌∙◌}
use Rattle.std.specs.Prelude.{cond}
use Rattle.std.specs.List.{take_while}
use Rattle.std.proofs.lemmas.List.Sums.{take_while-cons}
use lib.ListN.{take}
use mathlib.Core.Bool.{Bool, true, false}
use mathlib.Core.List.{List, [], ◌∷◌}
use Prim.Native.Nat.{suc, ◌≤◌, zero-le, suc-le-suc}
use lib.ListN.{length}
use Rattle.slots.specs.Slots.{pick, entries, every}
use Rattle.slots.proofs.Lists.{every_in, every_head}

module _ {A : Type 0} (used : A → Bool) where
  pub entries-all : (xs : List A) → every used (entries used xs) ≡ true
  unfolding entries every
  entries-all [] = refl
  entries-all (x ∷ xs) = go (used x) refl (entries-all xs)
    where
      go : (b : Bool) → used x ≡ b → every used (entries used xs) ≡ true → every used (pick b (x ∷ entries used xs) []) ≡ true
      go true u ih = every_in used x (entries used xs) u ∙ ih
      go false u ih = refl

  pub length-entries : (xs : List A) → length (entries used xs) ≤ length xs
  unfolding entries
  length-entries [] = zero-le
  length-entries (x ∷ xs) = go (used x) (length-entries xs)
    where
      go : (b : Bool) → length (entries used xs) ≤ length xs → length (pick b (x ∷ entries used xs) []) ≤ suc (length xs)
      go true ih = suc-le-suc ih
      go false ih = zero-le

  -- a list of used slots is its own entries
  pub entries-every : (ys : List A) → every used ys ≡ true → entries used ys ≡ ys
  unfolding entries
  entries-every [] e = refl
  entries-every (y ∷ ys) e = rw (every_head used y ys e).0 (ap (λ (l : List A). y ∷ l) (entries-every ys (every_head used y ys e).1))

-- the used slots are the front of the array that std takes while the test holds
module _ {A : Type 0} (used : A → Bool) where
  pub entries_taken : (xs : List A) → entries used xs ≡ take_while used xs
  unfolding entries
  entries_taken [] = refl
  entries_taken (x ∷ xs) = go (used x) refl (entries_taken xs) ∙ sym (take_while-cons used x xs)
    where
      go : (b : Bool) → used x ≡ b → entries used xs ≡ take_while used xs → pick b (x ∷ entries used xs) [] ≡ cond b (x ∷ take_while used xs) []
      go true u ih = ap (λ (l : List A). x ∷ l) ih
      go false u ih = refl

  pub entries_front : (xs : List A) → take (length (entries used xs)) xs ≡ entries used xs
  unfolding entries
  entries_front [] = refl
  entries_front (x ∷ xs) = go (used x) (entries_front xs)
    where
      go : (b : Bool) → take (length (entries used xs)) xs ≡ entries used xs → take (length (pick b (x ∷ entries used xs) [])) (x ∷ xs) ≡ pick b (x ∷ entries used xs) []
      go true ih = ap (λ (l : List A). x ∷ l) ih
      go false ih = refl
