-- What is promised is proved.
use mathlib.Core.Bool.{Bool, false, true}
use mathlib.Core.List.{List, [], ◌++◌}
use mathlib.Core.Path.{◌∙◌, ◌≡◌, ap, refl, subst, sym}
use Prim.Native.Nat.{ℕ}
use Rattle.rules.proofs.Choices.{by_cases, clash, pick-false, pick_true}
use Rattle.rules.proofs.PairKept.{sound-step}
use Rattle.rules.proofs.PairWhole.{Whole, whole-sound}
use Rattle.rules.proofs.Verdicts.{if_verdict}
use Rattle.rules.specs.Events.{step}
use Rattle.rules.specs.GuestSlots.{laid_guest, zero_interrupt}
use Rattle.rules.specs.History.{History}
use Rattle.rules.specs.Lone.{LoneStep, fresh_lone, lone_steps}
use Rattle.rules.specs.Pair.{is_promoted}
use Rattle.rules.specs.PairSlots.{laid, laid_card, zero_pair}
use Rattle.rules.specs.Program.{good, under}
use Rattle.slots.specs.Slots.{padded, pick}
use Rattle.promises.proofs.Faithful.{answers, demand-stored, faithful}
use Rattle.promises.proofs.LinkFull.{link_full_lem}
use Rattle.promises.proofs.NeverTwo.{never_two_lem}
use Rattle.promises.proofs.OneCard.{one_card_lem}
use Rattle.promises.proofs.Refusals.{refusals, set_ups_lem}
use Rattle.promises.proofs.Runs.{events_in, events_in_append, ran-bad, ran-good}
use Rattle.promises.proofs.Soundness.{at_most, none_in_front_lem, soundness}
use Rattle.promises.specs.Promises.{Demand3, OneCard, Promises, ran}

-- ---- demand 3 from the bytes on: the lone history is that of the events that the bytes say, and empty where no pair is made

module _ (code : List ℕ) (l : ℕ) where
  lone-history : List (List ℕ) → List LoneStep
  lone-history evs = pick (good (under code l)) ((one_card_lem (under code l)).history (events_in evs)) []

  demanded : (evs : List (List ℕ)) → Demand3 (under code l) laid_guest (padded 16 zero_interrupt) (ran code l evs) (lone-history evs)
  unfolding lone-history zero_pair laid laid_card fresh_lone lone_steps is_promoted
  demanded evs =
      by_cases (good (under code l))
      (λ g.
      subst (Demand3 (under code l) laid_guest (padded 16 zero_interrupt) (ran code l evs)) (sym (pick_true ((one_card_lem (under code l)).history (events_in evs)) [] g))
      (subst (λ (h : History). Demand3 (under code l) laid_guest (padded 16 zero_interrupt) h ((one_card_lem (under code l)).history (events_in evs))) (sym (ran-good code l evs g)) (demand-stored (under code l) (events_in evs))))
      (λ b.
      subst (Demand3 (under code l) laid_guest (padded 16 zero_interrupt) (ran code l evs)) (sym (pick-false ((one_card_lem (under code l)).history (events_in evs)) [] b))
      (subst (λ (h : History). Demand3 (under code l) laid_guest (padded 16 zero_interrupt) h []) (sym (ran-bad code l evs b))
      (record { epochs_p = refl; epochs_b = refl; agree = tt; lone = fresh_lone; possible = refl; same_record = refl; first = λ _. (refl, refl); second = λ q. clash q refl })))

  grows : (evs more : List (List ℕ)) → (t : List LoneStep) × (lone-history (evs ++ more) ≡ lone-history evs ++ t)
  unfolding lone-history
  grows evs more = go (good (under code l))
    where
      go : (b : Bool) → (t : List LoneStep) × (pick b ((one_card_lem (under code l)).history (events_in (evs ++ more))) [] ≡ pick b ((one_card_lem (under code l)).history (events_in evs)) [] ++ t)
      go true = let r = (one_card_lem (under code l)).grows (events_in evs) (events_in more) in (r.0, ap (one_card_lem (under code l)).history (events_in_append evs more) ∙ r.1)
      go false = ([], refl)

  one_card-bytes : OneCard (under code l) laid_guest (padded 16 zero_interrupt) (ran code l)
  one_card-bytes = record { history = lone-history; demand = demanded; grows = grows }

pub promises : Promises
promises =
    record {
      one_card = one_card-bytes;
      never_two = never_two_lem;
      soundness = soundness;
      at_most58 = at_most;
      link_full = link_full_lem;
      none_in_front = none_in_front_lem;
      refusals = refusals;
      set_ups = set_ups_lem;
      model =
          record {
            one_card = one_card_lem;
            sound_kept = λ code s ev t o q. whole-sound t (if_verdict (λ t o. Whole t) (step code s ev) t o (sound-step code s ev) q);
            faithful = faithful;
            answers = answers;
          };
    }
