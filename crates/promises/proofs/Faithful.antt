-- The pair in memory does what the model does, from a fresh pair on.
use mathlib.Core.Bool.{Bool, false, true}
use mathlib.Core.List.{List, [], ◌++◌, ◌∷◌, map}
use mathlib.Core.Path.{◌∙◌, ◌≡◌, ap, refl, sym}
use lib.Dec.{eqb}
use lib.ListN.{length-map}
use Rattle.rules.proofs.PairKept.{sound-step}
use Rattle.rules.proofs.PairSlots.{Fits, apply-laid, fresh-fits, whole-fits}
use Rattle.rules.proofs.PairWhole.{Whole}
use Rattle.rules.proofs.Verdicts.{if_after, if_map}
use Rattle.rules.specs.Events.{Verdict, kind, refused, step, taken}
use Rattle.rules.specs.GuestSlots.{laid_guest, zero_interrupt}
use Rattle.rules.specs.History.{History, after, feed, feed_stored, fresh_history, fresh_stored, laid_history, noted, recorded, run, run_stored}
use Rattle.rules.specs.Lone.{LoneStep}
use Rattle.rules.specs.Messages.{only}
use Rattle.rules.specs.PairSlots.{apply, laid, laid_card, stored}
use Rattle.rules.specs.Program.{Setup}
use Rattle.rules.specs.declared.Event.{Event}
use Rattle.rules.specs.declared.Guest.{Guest}
use Rattle.slots.specs.Slots.{padded}
use Rattle.promises.proofs.OneCard.{one_card_lem}
use Rattle.promises.specs.Promises.{Agree, Demand3}

pub map-append {ℓ κ} : {X : Type ℓ} {Y : Type κ} (f : X → Y) (s t : List X) → map f (s ++ t) ≡ map f s ++ map f t
map-append f [] t = refl
map-append {Y = Y} f (x ∷ s) t = ap (λ (l : List Y). f x ∷ l) (map-append f s t)

noted-laid : (l : List Guest) (b : Bool) (g : Guest) → noted (map laid_guest l) (only b (laid_guest g)) ≡ map laid_guest (noted l (only b g))
unfolding noted only
noted-laid l true g = sym (map-append laid_guest l (g ∷ []))
noted-laid l false g = refl

laid-after : (ev : Event) (h : History) (v : Verdict) → after ev (laid_history h) (stored v) ≡ laid_history (after ev h v)
unfolding after laid_history stored laid laid_card
laid-after ev h (refused why) = refl
laid-after ev h (taken s o) = λ k. record { pair = laid s; shown = recorded h.shown o; entered_p = noted-laid h.entered_p (eqb (kind ev) 4) s.p.guest k; entered_b = noted-laid h.entered_b (eqb (kind ev) 10) s.b.guest k }

fits-feed : (S : Setup) (h : History) (ev : Event) → Fits h.pair → Fits (feed S h ev).pair
unfolding feed after
fits-feed S h ev f = if_after (λ (k : History). Fits k.pair) ev h (step S.code h.pair ev) f (if_map (λ t o. Whole t) (λ t o. Fits t) (λ t o w. whole-fits t w) (step S.code h.pair ev) (sound-step S.code h.pair ev))

pub fits-run : (S : Setup) (h : History) (evs : List Event) → Fits h.pair → Fits (run S h evs).pair
unfolding run
fits-run S h [] f = f
fits-run S h (ev ∷ evs) f = fits-run S (feed S h ev) evs (fits-feed S h ev f)

feed-laid : (S : Setup) (h : History) (ev : Event) → Fits h.pair → feed_stored S (laid_history h) ev ≡ laid_history (feed S h ev)
unfolding feed_stored feed laid_history
feed-laid S h ev f = ap (after ev (laid_history h)) (apply-laid S.code h.pair ev f) ∙ laid-after ev h (step S.code h.pair ev)

run-laid : (S : Setup) (h : History) (evs : List Event) → Fits h.pair → run_stored S (laid_history h) evs ≡ laid_history (run S h evs)
unfolding run run_stored
run-laid S h [] f = refl
run-laid S h (ev ∷ evs) f = ap (λ (x : History). run_stored S x evs) (feed-laid S h ev f) ∙ run-laid S (feed S h ev) evs (fits-feed S h ev f)

pub faithful : (S : Setup) (evs : List Event) → run_stored S (fresh_stored S) evs ≡ laid_history (run S (fresh_history S) evs)
unfolding fresh_history fresh_stored laid_history
faithful S evs = run-laid S (fresh_history S) evs (fresh-fits S)

pub answers : (S : Setup) (evs : List Event) (ev : Event) → apply S.code (run_stored S (fresh_stored S) evs).pair ev ≡ stored (step S.code (run S (fresh_history S) evs).pair ev)
unfolding laid_history fresh_history
answers S evs ev = ap (λ (h : History). apply S.code h.pair ev) (faithful S evs) ∙ apply-laid S.code (run S (fresh_history S) evs).pair ev (fits-run S (fresh_history S) evs (fresh-fits S))

-- ---- demand 3 in memory

demand-laid : (S : Setup) (h : History) (steps : List LoneStep) → Demand3 S (λ g. g) (λ is. is) h steps → Demand3 S laid_guest (padded 16 zero_interrupt) (laid_history h) steps
unfolding laid_history laid laid_card
demand-laid S h steps d =
    record {
      epochs_p = length-map h.entered_p laid_guest ∙ d.epochs_p;
      epochs_b = length-map h.entered_b laid_guest ∙ d.epochs_b;
      agree = go h.entered_p h.entered_b d.agree;
      lone = d.lone;
      possible = d.possible;
      same_record = d.same_record;
      first = λ q. (ap laid_guest (d.first q).0, ap (padded 16 zero_interrupt) (d.first q).1);
      second = λ q. (ap laid_guest (d.second q).0, ap (padded 16 zero_interrupt) (d.second q).1);
    }
  where
    go : (gs hs : List Guest) → Agree gs hs → Agree (map laid_guest gs) (map laid_guest hs)
    go [] hs a = tt
    go (g ∷ gs) [] a = tt
    go (g ∷ gs) (h ∷ hs) a = (ap laid_guest a.0, go gs hs a.1)

pub demand-stored : (S : Setup) (evs : List Event) → Demand3 S laid_guest (padded 16 zero_interrupt) (laid_history (run S (fresh_history S) evs)) ((one_card_lem S).history evs)
demand-stored S evs = demand-laid S (run S (fresh_history S) evs) ((one_card_lem S).history evs) ((one_card_lem S).demand evs)
