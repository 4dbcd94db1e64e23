-- The boundary's parts on a sound guest in memory.
use mathlib.Core.Bool.{true}
use mathlib.Core.Path.{◌∙◌, ◌≡◌, ap}
use Prim.Native.Nat.{ℕ}
use Rattle.rules.proofs.GuestKept.{guest-kept, sound-again, sound-fits, sound-seen}
use Rattle.rules.proofs.GuestSlots.{FitsGuest, proper_used}
use Rattle.rules.proofs.Lists.{every-each}
use Rattle.rules.specs.Boundary.{boundary, deliver, restart, tell_uncertain, timer}
use Rattle.rules.specs.GuestKept.{SoundGuest}
use Rattle.rules.specs.GuestSlots.{laid_guest, seen_guest, used_interrupt}
use Rattle.rules.specs.GuestSound.{proper, sound_guest}
use Rattle.rules.specs.declared.Guest.{Guest}
use Rattle.boundary.proofs.Laid.{laid-boundary, laid-close, laid-deliver, laid-timer, laid-uncertain}
use Rattle.boundary.specs.InSlots.{boundary_in, close_in, deliver_in, tell_uncertain_in, timer_in}
use Rattle.boundary.specs.Kept.{BoundaryKept, Does}

module _ (n l : ℕ) (g : Guest) (s : SoundGuest n l g) where
  -- from the law on slots that fit, and the rule that keeps a guest sound
  done : (act : Guest → Guest) (does : Guest → Guest) → (FitsGuest (seen_guest g) → act (laid_guest (seen_guest g)) ≡ laid_guest (does (seen_guest g))) → sound_guest n l (does (seen_guest g)) ≡ true → Does n l g (act g) does
  done act does law k =
      let r : act g ≡ laid_guest (does (seen_guest g)) = ap act (sound-again n l g s) ∙ law (sound-fits n l g s) in
      record { rule = r; sound = rw r (guest-kept.laid n l (does (seen_guest g)) k) }

  pub boundary-kept : BoundaryKept n l g
  boundary-kept =
      let k = guest-kept.model n l in
      let m = sound-seen n l g s in
      record {
        delivery = λ i p. done (λ h. deliver_in h i) (λ h. deliver h i) (λ f. laid-deliver (seen_guest g) f i) (k.delivery i p (seen_guest g) m);
        uncertainty = done tell_uncertain_in tell_uncertain (laid-uncertain (seen_guest g)) (k.uncertainty (seen_guest g) m);
        timers = λ c. done (timer_in c) (timer c) (laid-timer c (seen_guest g)) (k.timers c (seen_guest g) m);
        closes = λ c. done (close_in c) (λ h. restart (timer c h)) (laid-close c (seen_guest g)) (k.restarts (timer c (seen_guest g)) (k.timers c (seen_guest g) m));
        boundaries =
            λ is p c.
            done (boundary_in is c) (boundary is c) (λ f. laid-boundary is c (seen_guest g) f (every-each proper used_interrupt proper_used is p)) (k.boundaries is p c (seen_guest g) m);
      }
