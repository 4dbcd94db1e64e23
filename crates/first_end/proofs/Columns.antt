-- What PTIME and PEND come to on a sound pair: refused by their column, or taken.
use mathlib.Core.Bool.{◌||◌, false, not, true}
use mathlib.Core.List.{List, [], ◌∷◌}
use mathlib.Core.Path.{◌∙◌, ◌≡◌, ap, refl}
use Prim.Native.Nat.{◌+◌, ℕ}
use lib.Dec.{eqb}
use lib.ListN.{length}
use Rattle.boundary.proofs.Laid.{laid-boundary}
use Rattle.boundary.specs.InSlots.{boundary_in}
use Rattle.tidy.proofs.Goes.{does-refused, guest-again, p-again, p-fits}
use Rattle.outcomes.specs.Made.{done}
use Rattle.tidy.specs.Tidy.{Tidy, does}
use Rattle.rules.specs.Boundary.{boundary}
use Rattle.rules.specs.Events.{handle, malformed, refuse, refused, taken}
use Rattle.rules.specs.GuestSlots.{laid_guest, seen_guest, used_interrupt, zero_interrupt}
use Rattle.rules.specs.Instruction.{complete}
use Rattle.rules.specs.Messages.{end, tme}
use Rattle.rules.specs.Pair.{clock_sent, enters, is_failed, is_waiting, next_epoch, on_p, setup_of}
use Rattle.rules.specs.PairSlots.{laid_card, outcome, seen, seen_card, used_message}
use Rattle.rules.specs.declared.Card.{Card}
use Rattle.rules.specs.declared.Event.TheVariants.{PEnd, PTime}
use Rattle.rules.specs.declared.Pair.{Pair}
use Rattle.rules.specs.declared.Phase.TheVariants.{Running, Waiting}
use Rattle.rules.specs.declared.Refusal.TheVariants.{Dead, EpochsUsedUp, MustWait, OutOfTurn}
use Rattle.slots.proofs.Entries.{entries-all}
use Rattle.slots.specs.Slots.{entries, padded, pushed}
use Rattle.tidy.proofs.Taken.{pair_p, taken_sending}
use Rattle.std.specs.Prelude.{None}

-- P has failed: 2
module _ (code : List ℕ) (s : Pair) (failed : is_failed s.phase ≡ true) where
  pub ptime_dead_lem : (w : ℕ) → outcome s (refused Dead) ≡ does code s (PTime w)
  unfolding handle refuse seen
  ptime_dead_lem w = does-refused code s (PTime w) Dead (rw failed)

  pub pend_dead_lem : outcome s (refused Dead) ≡ does code s PEnd
  unfolding handle refuse seen
  pend_dead_lem = does-refused code s PEnd Dead (rw failed)

module _ (code : List ℕ) (s : Pair) (alive : is_failed s.phase ≡ false) where
  -- ---- PTIME

  pub ptime_early_lem : (w : ℕ) → not (complete s.limit s.p.guest) || is_waiting s.phase ≡ true → outcome s (refused OutOfTurn) ≡ does code s (PTime w)
  unfolding handle refuse seen seen_card seen_guest setup_of complete
  ptime_early_lem w a = does-refused code s (PTime w) OutOfTurn (rw (alive, a))

  ptime_verdict : (w : ℕ) → not (complete s.limit s.p.guest) || is_waiting s.phase ≡ false
      → handle (setup_of code s) (seen s) (PTime w) ≡ taken (on_p (seen s) (seen_card s.p) (Waiting w) (tme s.p.epoch w ∷ [])) None
  unfolding handle refuse seen seen_card seen_guest setup_of complete
  ptime_verdict w a = rw (alive, a)

  ptime-formed : (w : ℕ) → malformed (PTime w) ≡ false
  unfolding malformed
  ptime-formed w = refl

  pub ptime_taken : Tidy s → (w : ℕ) → not (complete s.limit s.p.guest) || is_waiting s.phase ≡ false
      → done (pair_p s s.p (Waiting w) (pushed used_message s.link (tme s.p.epoch w))) None ≡ does code s (PTime w)
  ptime_taken t w a = taken_sending code s t (PTime w) (ptime-formed w) (seen_card s.p) (Waiting w) None (tme s.p.epoch w) (ptime_verdict w a) s.p (λ _. p-again s t)

  -- ---- PEND

  pub pend_early_lem : is_waiting s.phase ≡ false → outcome s (refused OutOfTurn) ≡ does code s PEnd
  unfolding handle refuse seen
  pend_early_lem a = does-refused code s PEnd OutOfTurn (rw (alive, a))

  pub pend_used : is_waiting s.phase ≡ true → eqb s.p.epoch.0 65535 ≡ true → outcome s (refused EpochsUsedUp) ≡ does code s PEnd
  unfolding handle refuse seen seen_card
  pend_used a b = does-refused code s PEnd EpochsUsedUp (rw (alive, a, b))

  pub pend_waits_lem : is_waiting s.phase ≡ true → eqb s.p.epoch.0 65535 ≡ false → eqb (length (entries used_message s.link) + s.acks) 0 ≡ false → outcome s (refused MustWait) ≡ does code s PEnd
  unfolding handle refuse seen seen_card
  pend_waits_lem a b d = does-refused code s PEnd MustWait (rw (alive, a, b, d))

  abbrev ended : Card
  ended = enters (seen_card s.p) (boundary (entries used_interrupt s.p.buffer) (clock_sent s.phase) (seen_guest s.p.guest))

  pend_verdict : is_waiting s.phase ≡ true → eqb s.p.epoch.0 65535 ≡ false → eqb (length (entries used_message s.link) + s.acks) 0 ≡ true
      → handle (setup_of code s) (seen s) PEnd ≡ taken (on_p (seen s) ended Running (end s.p.epoch ∷ [])) None
  unfolding handle refuse seen seen_card
  pend_verdict a b d = rw (alive, a, b, d)

  pend-formed : malformed PEnd ≡ false
  unfolding malformed
  pend-formed = refl

  pend_card : Tidy s → record { guest = boundary_in (entries used_interrupt s.p.buffer) (clock_sent s.phase) s.p.guest; epoch = next_epoch s.p.epoch; buffer = padded 16 zero_interrupt [] } ≡ laid_card ended
  unfolding laid_card enters seen_card
  pend_card t =
      let again = guest-again s.p (p-again s t) in
      let g : boundary_in (entries used_interrupt s.p.buffer) (clock_sent s.phase) s.p.guest ≡ laid_guest (boundary (entries used_interrupt s.p.buffer) (clock_sent s.phase) (seen_guest s.p.guest)) =
      ap (boundary_in (entries used_interrupt s.p.buffer) (clock_sent s.phase)) again
      ∙ laid-boundary (entries used_interrupt s.p.buffer) (clock_sent s.phase) (seen_guest s.p.guest) (p-fits s t) (entries-all used_interrupt s.p.buffer) in
      λ k. record { guest = g k; epoch = next_epoch s.p.epoch; buffer = padded 16 zero_interrupt [] }

  pub pend_taken : Tidy s → is_waiting s.phase ≡ true → eqb s.p.epoch.0 65535 ≡ false → eqb (length (entries used_message s.link) + s.acks) 0 ≡ true
      → done (pair_p s (record { guest = boundary_in (entries used_interrupt s.p.buffer) (clock_sent s.phase) s.p.guest; epoch = next_epoch s.p.epoch; buffer = padded 16 zero_interrupt [] }) Running (pushed used_message s.link (end s.p.epoch))) None
      ≡ does code s PEnd
  pend_taken t a b d = taken_sending code s t PEnd pend-formed ended Running None (end s.p.epoch) (pend_verdict a b d) _ (λ _. pend_card t)

-- ---- what the check may use of these, for each function

pub ruleset of_p_time = (ptime_dead_lem, ptime_early_lem, ptime_taken)

pub ruleset of_p_end = (pend_dead_lem, pend_early_lem, pend_used, pend_waits_lem, pend_taken)
