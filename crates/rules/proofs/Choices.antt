-- Tests that hold or fail, and what is chosen by them.
use mathlib.Core.Bool.{Bool, ◌&&◌, ◌||◌, false, not, true}
use mathlib.Core.Logic.{◌⊎◌, inl, inr}
use mathlib.Core.Path.{◌≡◌, refl}
use Prim.Native.Nat.{ℕ}
use native.Mathlib.Omega.{arith}
use Rattle.slots.specs.Slots.{pick}

-- a test cannot both hold and fail
pub clash {ℓ} : {X : Type ℓ} {b : Bool} → b ≡ true → b ≡ false → X
clash {X = X} p q = absurd (let z : ◌≡◌ {A = ℕ} 0 1 = cc in omega arith)

pub by_cases {ℓ} : {X : Type ℓ} (b : Bool) → (b ≡ true → X) → (b ≡ false → X) → X
by_cases true f g = f refl
by_cases false f g = g refl

pub or_true : (a b : Bool) → a || b ≡ true → (a ≡ true) ⊎ (b ≡ true)
or_true true b e = inl refl
or_true false b e = inr e

pub or_left : (a b : Bool) → a ≡ true → a || b ≡ true
or_left a b h = rw h

pub or_right : (a b : Bool) → b ≡ true → a || b ≡ true
or_right true b h = refl
or_right false b h = h

-- the second of two where the first fails
pub or_other : (a b : Bool) → a || b ≡ true → a ≡ false → b ≡ true
or_other true b h q = clash refl q
or_other false b h q = h

pub and_right : (a b : Bool) → b ≡ false → a && b ≡ false
and_right true b h = h
and_right false b h = refl

-- not both fail: one fails, so the other holds
pub nor_other : (a b : Bool) → not a && not b ≡ false → a ≡ false → b ≡ true
nor_other true b h q = clash refl q
nor_other false true h q = refl
nor_other false false h q = clash refl h

-- where the first holds, the second does too
pub and_not_other : (a b : Bool) → a && not b ≡ false → a ≡ true → b ≡ true
and_not_other true true h q = refl
and_not_other true false h q = clash refl h
and_not_other false b h q = clash q refl

module _ {X : Type 0} where
  pub pick_true : {b : Bool} (x y : X) → b ≡ true → pick b x y ≡ x
  pick_true x y e = rw e

  pub pick-false : {b : Bool} (x y : X) → b ≡ false → pick b x y ≡ y
  pick-false x y e = rw e

-- a property of both branches is one of the choice
pub pick_case {κ} : {X : Type 0} (Q : X → Type κ) (b : Bool) (x y : X) → (b ≡ true → Q x) → (b ≡ false → Q y) → Q (pick b x y)
pick_case Q true x y f g = f refl
pick_case Q false x y f g = g refl
