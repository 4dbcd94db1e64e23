-- The boundary in its parts: what a delivery does to the table.
use mathlib.Core.Bool.{Bool}
use mathlib.Core.List.{List, [], ◌∷◌}
use mathlib.Core.Path.{◌≡◌, refl}
use Prim.Native.Nat.{ℕ}
use Rattle.slots.specs.Slots.{keep}
use Rattle.rules.proofs.Choices.{pick_case}
use Rattle.rules.proofs.Lists.{All, folded_keeps}
use Rattle.rules.specs.Boundary.{boundary, deliver, delivers, due, other_op, restart, rings, timer, told}
use Rattle.rules.specs.Guest.{listed}
use Rattle.rules.specs.declared.Guest.{Guest}
use Rattle.rules.specs.declared.Interrupt.{Interrupt}
use Rattle.rules.specs.declared.OpNo.{OpNo}

-- what holds of a table, and of what is left of it when some leave, holds after each delivery
module _ {κ} (P : List OpNo → Type κ) (kept : (t : OpNo → Bool) (l : List OpNo) → P l → P (keep t l)) where
  pub deliver-table : (g : Guest) (i : Interrupt) → P g.table → P (deliver g i).table
  unfolding deliver told
  deliver-table g i a = pick_case (λ (h : Guest). P h.table) (listed i.op g.table) (told g i) g (λ _. kept (other_op i.op) g.table a) (λ _. a)

  pub delivers-table : (g : Guest) (is : List Interrupt) → P g.table → P (delivers g is).table
  delivers-table g is a = folded_keeps (λ (h : Guest). P h.table) (λ (i : Interrupt). Unit {0}) deliver (λ h i _ p. deliver-table h i p) is g (all_true is) a
    where
      all_true : (l : List Interrupt) → All (λ (i : Interrupt). Unit {0}) l
      all_true [] = tt
      all_true (i ∷ l) = (tt, all_true l)

-- the timer and the restart leave the table
pub boundary-table : (is : List Interrupt) (c : ℕ) (g : Guest) → (boundary is c g).table ≡ (delivers g is).table
unfolding boundary restart timer rings
boundary-table is c g = pick_case (λ (h : Guest). h.table ≡ (delivers g is).table) (due c (delivers g is)) (rings c (delivers g is)) (delivers g is) (λ _. refl) (λ _. refl)
