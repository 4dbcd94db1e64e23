-- On a guest whose free slots are zero, and with Ints of status 1 or 2, the boundaries on slots are the rules' own, laid out.
use mathlib.Core.Bool.{Bool, false, true}
use mathlib.Core.List.{List}
use mathlib.Core.Path.{◌∙◌, ◌≡◌, ap, refl}
use Prim.Native.Nat.{ℕ}
use lib.Dec.{eqb}
use Rattle.boundary.proofs.Laid.{laid-boundary, laid-close, laid-delivers, laid-uncertain}
use Rattle.boundary.specs.InSlots.{boundary_in, close_in, tell_uncertain_in}
use Rattle.rules.proofs.GuestSlots.{FitsGuest, fits-delivers, fits-uncertain}
use Rattle.rules.proofs.Lists.{every-all}
use Rattle.rules.specs.Boundary.{boundary, delivers, failover, tell_uncertain}
use Rattle.rules.specs.Events.{turned, turned_last}
use Rattle.rules.specs.GuestSlots.{laid_guest, used_interrupt}
use Rattle.rules.specs.Messages.{first, ints, tmes}
use Rattle.rules.specs.declared.EpochNo.{EpochNo}
use Rattle.rules.specs.declared.Guest.{Guest}
use Rattle.rules.specs.declared.Message.{Message}
use Rattle.slots.specs.Slots.{every, pick}
use Rattle.turn.specs.InSlots.{turned_in, turned_last_in}

module _ (e : EpochNo) (g : Guest) (ms : List Message) (w : ℕ) (f : FitsGuest g) (u : every used_interrupt (ints e ms) ≡ true) where
  pub laid-turned : turned_in e (laid_guest g) ms w ≡ laid_guest (turned (eqb e.0 0) e g ms w)
  unfolding turned_in turned
  laid-turned = go (eqb e.0 0)
    where
      go : (b : Bool) → pick b (laid_guest g) (boundary_in (ints e ms) (first (tmes e ms) w) (laid_guest g)) ≡ laid_guest (pick b g (boundary (ints e ms) (first (tmes e ms) w) g))
      go true = refl
      go false = laid-boundary (ints e ms) (first (tmes e ms) w) g f u

  pub laid-turned_last : turned_last_in e (laid_guest g) ms w ≡ laid_guest (turned_last e g ms w)
  unfolding turned_last_in turned_last failover
  laid-turned_last =
      let heard = fits-delivers (ints e ms) g (every-all used_interrupt (ints e ms) u) f in
      ap (λ (h : Guest). close_in (first (tmes e ms) w) (tell_uncertain_in h)) (laid-delivers (ints e ms) g f u)
      ∙ ap (close_in (first (tmes e ms) w)) (laid-uncertain (delivers g (ints e ms)) heard)
      ∙ laid-close (first (tmes e ms) w) (tell_uncertain (delivers g (ints e ms))) (fits-uncertain (delivers g (ints e ms)) heard)
