-- Tests: what a Bool says, and what a branch of code says to a Bool.
use mathlib.Core.Path.{◌≡◌, refl, sym, ap, ◌∙◌}
use mathlib.Core.Bool.{Bool, true, false, not, ◌&&◌, ◌||◌, false≢true}
use mathlib.Core.List.{List, map}
use Prim.Native.Nat.{ℕ, ◌<◌}
use lib.Dec.{eqb}
use lib.ListN.{length, length-map}
use borrow.Author.Tests.{ne_eqb}
use Rattle.slots.specs.Slots.{pick}

-- a conjunction gives both, and both give it
pub and_true : (a b : Bool) → a && b ≡ true → (a ≡ true) × (b ≡ true)
and_true true b e = (refl, e)
and_true false b e = absurd (false≢true e)

pub both : {a b : Bool} → a ≡ true → b ≡ true → a && b ≡ true
both {a} {b} h k = rw (h, k)

pub or_false : (a b : Bool) → a || b ≡ false → (a ≡ false) × (b ≡ false)
or_false false b e = (refl, e)
or_false true b e = absurd (false≢true (sym e))

-- two tests that hold together are one
pub bool_iff : (a b : Bool) → (a ≡ true → b ≡ true) → (b ≡ true → a ≡ true) → a ≡ b
bool_iff true b f g = sym (f refl)
bool_iff false true f g = g refl
bool_iff false false f g = refl

-- a function goes into both arms
pub pick-ap : {A B : Type 0} (f : A → B) (b : Bool) (x y : A) → f (pick b x y) ≡ pick b (f x) (f y)
pick-ap f true x y = refl
pick-ap f false x y = refl

-- the length of an array of structs in a struct
pub length_mapped : {X Y : Type 0} (f : X → Y) (l : List X) (n : ℕ) → length (map f l) ≡ n → length l ≡ n
length_mapped f l n e = sym (length-map l f) ∙ e

pub below_mapped : {X Y : Type 0} (f : X → Y) (l : List X) (i n : ℕ) → length (map f l) ≡ n → i < n → i < length l
below_mapped f l i n e h = rw (length_mapped f l n e) h

-- a number that is 0 in a free slot, and not in a used one
pub is_free : (k : ℕ) → k ≡ 0 → not (eqb k 0) ≡ false
is_free k e = rw e

pub is_used : (k : ℕ) → (k ≡ 0 → ⊥) → not (eqb k 0) ≡ true
is_used k h = ap not (ne_eqb k 0 h)
