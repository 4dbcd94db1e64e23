-- Demand 1: what is made is sound and stays so, every free slot is zero, and a refused event changes nothing. And what follows for runs.
use mathlib.Core.Bool.{false, true}
use mathlib.Core.List.{List, [], ◌∷◌}
use mathlib.Core.Logic.{◌⊎◌, inl, inr}
use mathlib.Core.Path.{◌∙◌, ◌≡◌, ap, refl, subst, sym}
use Prim.Native.Nat.{◌*◌, ◌<◌, ◌≤◌, ℕ}
use lib.Dec.{lit≤}
use lib.ListN.{length}
use native.Mathlib.Omega.{arith}
use Rattle.rules.proofs.Answers.{taken-zero, zero-taken}
use Rattle.rules.proofs.Choices.{by_cases, clash}
use Rattle.rules.proofs.Decode.{good_setup}
use Rattle.rules.proofs.PairKept.{sound-apply, sound-step, whole-handle}
use Rattle.rules.proofs.PairSlots.{laid-seen-pair, seen-laid-pair, sound-laid-pair, sound-seen-pair, sound-tight, whole-fits}
use Rattle.rules.proofs.PairWhole.{Whole, at-most_58, buffered, whole_fresh}
use Rattle.rules.proofs.Verdicts.{IfTaken, if_after, if_any, if_verdict}
use Rattle.rules.specs.Events.{handle, malformed, step}
use Rattle.rules.specs.Guest.{fresh}
use Rattle.rules.specs.GuestSlots.{laid_guest, seen_guest}
use Rattle.rules.specs.History.{History, after, feed, fresh_history, laid_history, run}
use Rattle.rules.specs.Pair.{fresh_pair, setup_of}
use Rattle.rules.specs.PairSlots.{answer_number, apply, laid, laid_card, made, outcome, seen, seen_card, sound_pair, zero_pair}
use Rattle.rules.specs.Program.{Setup, good, under}
use Rattle.rules.specs.Sound.{unacknowledged}
use Rattle.rules.specs.declared.Event.{Event}
use Rattle.rules.specs.declared.Outcome.{Outcome}
use Rattle.rules.specs.declared.Pair.{Pair}
use Rattle.slots.specs.Slots.{entries, padded}
use Rattle.promises.proofs.Bytes.{if_stepped}
use Rattle.promises.proofs.OneCard.{stage}
use Rattle.promises.proofs.Refusals.{refusals}
use Rattle.promises.proofs.Runs.{events_in, made-bad, made-good, ran-bad, ran-good}
use Rattle.promises.specs.Promises.{AtMost58, NoneInFront, Soundness, pair_after}
use Rattle.promises.specs.Refusals.{At, Broken, Formed, bstep_bad, pstep_bad}
use Rattle.std.specs.Prelude.{None}

-- ---- along a run

whole-feed : (S : Setup) (h : History) (ev : Event) → Whole h.pair → Whole (feed S h ev).pair
unfolding feed after
whole-feed S h ev w = if_after (λ (k : History). Whole k.pair) ev h (step S.code h.pair ev) w (sound-step S.code h.pair ev)

whole_run : (S : Setup) (h : History) (evs : List Event) → Whole h.pair → Whole (run S h evs).pair
unfolding run
whole_run S h [] w = w
whole_run S h (ev ∷ evs) w = whole_run S (feed S h ev) evs (whole-feed S h ev w)

-- the pair that a run of a good program reaches, without its free slots
unfoldable pub reached-pair : List ℕ → ℕ → List (List ℕ) → Pair
reached-pair code l evs = (run (under code l) (fresh_history (under code l)) (events_in evs)).pair

module _ (code : List ℕ) (l : ℕ) (evs : List (List ℕ)) (g : good (under code l) ≡ true) where
  pub reached-laid : pair_after code l evs ≡ laid (reached-pair code l evs)
  unfolding reached-pair laid_history
  reached-laid = ap (λ (h : History). h.pair) (ran-good code l evs g)

  pub reached-whole : Whole (reached-pair code l evs)
  unfolding reached-pair fresh_history
  reached-whole = whole_run (under code l) (fresh_history (under code l)) (events_in evs) (whole_fresh (under code l) g)

  pub reached-seen : seen (pair_after code l evs) ≡ reached-pair code l evs
  reached-seen = ap seen reached-laid ∙ seen-laid-pair (reached-pair code l evs) (whole-fits (reached-pair code l evs) reached-whole)

  pub reached_setup : setup_of code (reached-pair code l evs) ≡ under code l
  unfolding reached-pair under
  reached_setup = (stage (under code l) (events_in evs)).ledger.setup

-- where no pair is made
pub zero-after : (code : List ℕ) (l : ℕ) (evs : List (List ℕ)) → good (under code l) ≡ false → pair_after code l evs ≡ zero_pair
zero-after code l evs b = ap (λ (h : History). h.pair) (ran-bad code l evs b)

zero-laid : laid (seen zero_pair) ≡ zero_pair
unfolding zero_pair seen laid seen_card laid_card seen_guest laid_guest fresh padded entries
zero-laid = refl

-- what is taken was set up under a good program
taken-good : (S : Setup) → answer_number (made S).answer ≡ 0 → good S ≡ true
taken-good S q = by_cases (good S) (λ g. g) (λ b. absurd (let z : ◌≡◌ {A = ℕ} 0 1 = cc (zero-taken (made S).answer q, ap (λ (o : Outcome). o.answer) (made-bad S b)) in omega arith))

-- ---- demand 1

whole-seen : (code : List ℕ) (s : Pair) (ev : Event) → sound_pair s ≡ true → malformed ev ≡ false → IfTaken (λ t o. Whole t) (handle (setup_of code s) (seen s) ev)
unfolding setup_of seen
whole-seen code s ev h f = whole-handle code (seen s) (sound-seen-pair s h) ev f

pub soundness : Soundness
unfolding outcome
soundness =
    record {
      fresh = λ code l q. let g = taken-good (under code l) q in ap (λ (o : Outcome). sound_pair o.pair) (made-good (under code l) g) ∙ sound-laid-pair (fresh_pair (under code l)) (whole_fresh (under code l) g);
      kept = λ code s bytes h. if_stepped (λ (x : Outcome). sound_pair x.pair ≡ true) code s bytes (λ why. h) λ ev _. sound-apply code s ev;
      zero_slots = λ code l evs.
          by_cases (good (under code l))
          (λ g. ap laid (reached-seen code l evs g) ∙ sym (reached-laid code l evs g))
          (λ b. let z = zero-after code l evs b in ap (λ (s : Pair). laid (seen s)) z ∙ zero-laid ∙ sym z);
      accepted = λ s z h. sym (laid-seen-pair s z (sound-tight s h));
      fits = λ code s ev m o h f q. seen-laid-pair m (whole-fits m (if_verdict (λ t o. Whole t) _ m o (whole-seen code s ev h f) q));
      refused = λ code s bytes.
          if_stepped (λ (x : Outcome). (answer_number x.answer ≡ 0 → ⊥) → (x.pair ≡ s) × (x.shown ≡ None)) code s bytes (λ _ _. (refl, refl))
          λ ev _. if_any _ (λ t o q. absurd (q (taken-zero refl))) (apply code s ev);
    }

-- ---- what runs never come to

zero-few : unacknowledged (seen zero_pair) ≤ 58
unfolding zero_pair seen laid fresh padded entries
zero-few = lit≤ tt

pub at_most : AtMost58
at_most code l evs =
    by_cases (good (under code l))
    (λ g. let w = reached-whole code l evs g in rw (reached-seen code l evs g) (at-most_58 (reached-pair code l evs) w.first.forty (buffered (reached-pair code l evs).p w.first.sixteen w.first_buffer) w.wires))
    (λ b. rw (zero-after code l evs b) zero-few)

-- no instruction of a good program is bad
not_broken : (S : Setup) (s : Pair) (ev : Event) → good S ≡ true → setup_of S.code s ≡ S → Whole s → Broken S.code s ev → ⊥
unfolding setup_of
not_broken S s ev g e w (pstep_bad v a c d) = clash d (rw e ((good_setup S g).runs s.p.guest (subst (λ (T : Setup). s.p.guest.pc < T.count) e w.first.inside)))
not_broken S s ev g e w (bstep_bad v a c d) = clash d (rw e ((good_setup S g).runs s.b.guest (subst (λ (T : Setup). s.b.guest.pc < T.count) e w.second.inside)))

pub none_in_front_lem : NoneInFront
unfolding answer_number setup_of laid under
none_in_front_lem code l q evs bytes = (λ n. never_8 ((refusals code s bytes).bad_program.0 n), λ n. clash is-sound ((refusals code s bytes).unsound.0 n).1)
  where
    s : Pair
    s = pair_after code l evs

    g : good (under code l) ≡ true
    g = taken-good (under code l) q

    is-sound : sound_pair (pair_after code l evs) ≡ true
    is-sound = ap sound_pair (reached-laid code l evs g) ∙ sound-laid-pair (reached-pair code l evs) (reached-whole code l evs g)

    length-fits : length code ≡ 4 * (pair_after code l evs).count
    length-fits = (good_setup (under code l) g).bytes ∙ ap (λ (T : Setup). 4 * T.count) (sym (reached_setup code l evs g)) ∙ ap (λ (t : Pair). 4 * t.count) (sym (reached-laid code l evs g))

    never_8 : (Formed bytes × (sound_pair (pair_after code l evs) ≡ true) × (length code ≡ 4 * (pair_after code l evs).count → ⊥)) ⊎ At code (pair_after code l evs) bytes (Broken code (seen (pair_after code l evs))) → ⊥
    never_8 (inl x) = x.2 length-fits
    never_8 (inr x) = not_broken (under code l) (reached-pair code l evs) x.0 g (reached_setup code l evs g) (reached-whole code l evs g) (subst (λ (t : Pair). Broken code t x.0) (reached-seen code l evs g) x.2)
