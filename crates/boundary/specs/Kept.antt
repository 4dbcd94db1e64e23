-- What is promised of the boundary's parts on a sound guest in memory, under N and L.
use Rattle.std.specs.Prelude.{true, List, ◌≡◌, ℕ}
use Rattle.rules.specs.Boundary.{boundary, deliver, restart, tell_uncertain, timer}
use Rattle.rules.specs.GuestSlots.{laid_guest, seen_guest, sound_in_memory}
use Rattle.rules.specs.GuestSound.{proper}
use Rattle.rules.specs.declared.Guest.{Guest}
use Rattle.rules.specs.declared.Interrupt.{Interrupt}
use Rattle.slots.specs.Slots.{every}
use Rattle.boundary.specs.InSlots.{boundary_in, close_in, deliver_in, tell_uncertain_in, timer_in}

-- what the code does, `did`, is the rule `does` laid out in the slots, and the guest is sound again
pub record Does (n l : ℕ) (g : Guest) (did : Guest) (does : Guest → Guest) : Type 0 where
  pub rule : did ≡ laid_guest (does (seen_guest g))
  pub sound : sound_in_memory n l did ≡ true

pub record BoundaryKept (n l : ℕ) (g : Guest) : Type 0 where
  pub delivery : (i : Interrupt) → proper i ≡ true → Does n l g (deliver_in g i) (λ h. deliver h i)
  pub uncertainty : Does n l g (tell_uncertain_in g) tell_uncertain
  pub timers : (c : ℕ) → Does n l g (timer_in c g) (timer c)
  pub closes : (c : ℕ) → Does n l g (close_in c g) (λ h. restart (timer c h))
  pub boundaries : (is : List Interrupt) → every proper is ≡ true → (c : ℕ) → Does n l g (boundary_in is c g) (boundary is c)
