-- Never two cards at the devices.
use mathlib.Core.Bool.{false, true}
use mathlib.Core.Logic.{◌⊎◌, inl, inr}
use mathlib.Core.Path.{◌≡◌, refl}
use Prim.Native.Nat.{ℕ}
use lib.ListN.{get_or}
use native.Mathlib.Omega.{arith}
use Rattle.rules.proofs.Choices.{clash, pick_case}
use Rattle.rules.proofs.PairSlots.{if_apply, if_stored}
use Rattle.rules.proofs.PairWhole.{Whole}
use Rattle.rules.proofs.Verdicts.{IfTaken, if_linked, unless}
use Rattle.rules.specs.Events.{ended, handle, kind}
use Rattle.rules.specs.Messages.{first, vals}
use Rattle.rules.specs.Pair.{acknowledged, buffers, halted, is_failed, is_following, is_promoted, noticed, on_b, received, setup_of}
use Rattle.rules.specs.PairSlots.{laid, outcome, seen}
use Rattle.rules.specs.Program.{Setup, exec}
use Rattle.rules.specs.declared.Event.{Event}
use Rattle.rules.specs.declared.Event.TheVariants.{Ack, BEnd, BInt, BStep, Detect, Fail, Link, PEnd, PInt, PStep, PTime}
use Rattle.rules.specs.declared.Outcome.{Outcome}
use Rattle.rules.specs.declared.Pair.{Pair}
use Rattle.rules.specs.declared.RecordEntry.{RecordEntry}
use Rattle.rules.specs.declared.Refusal.TheVariants.{BadProgram, Dead, EpochsUsedUp, MustWait, OutOfTurn, UnknownOperation}
use Rattle.rules.specs.declared.Role.{Role}
use Rattle.rules.specs.declared.Role.TheVariants.{Failover, Following, Promoted}
use Rattle.promises.proofs.Bytes.{first_kind, if_stepped}
use Rattle.promises.specs.Promises.{NeverTwo}
use Rattle.std.specs.Prelude.{Some, None, Option}

-- nothing is shown
nothing {ℓ} : {X : Type ℓ} (e : RecordEntry) → None ≡ Some e → X
nothing e q = absurd (let z : ◌≡◌ {A = ℕ} 0 1 = cc in omega arith)

-- promoted: the first card has failed
promoted-failed : (s : Pair) → Whole s → is_promoted s.role ≡ true → is_failed s.phase ≡ true
unfolding is_promoted is_following
promoted-failed s w q = w.turns.stopped (w.turns.noticed (go s.role q))
  where
    go : (o : Role) → is_promoted o ≡ true → is_following o ≡ false
    go Following z = clash z refl
    go Failover z = refl
    go Promoted z = refl

-- ---- whose entry it is

module _ (S : Setup) (s : Pair) (w : Whole s) (e : RecordEntry) where
  Whose : Event → Type 0
  Whose ev = ((kind ev ≡ 1) × (is_failed s.phase ≡ false)) ⊎ ((kind ev ≡ 9) × (is_promoted s.role ≡ true) × (is_failed s.phase ≡ true))

  shown-handle : (ev : Event) → IfTaken (λ t o. o ≡ Some e → Whose ev) (handle S s ev)
  unfolding Whose handle ended kind
  shown-handle (PStep v) = unless _ _ Dead _ λ q. unless _ _ OutOfTurn _ λ _. unless _ _ BadProgram _ λ _ z. inl (refl, q)
  shown-handle (PInt i) = unless _ _ Dead _ λ _. unless _ _ UnknownOperation _ λ _. nothing e
  shown-handle (PTime v) = unless _ _ Dead _ λ _. unless _ _ OutOfTurn _ λ _. nothing e
  shown-handle PEnd = unless _ _ Dead _ λ _. unless _ _ OutOfTurn _ λ _. unless _ _ EpochsUsedUp _ λ _. unless _ _ MustWait _ λ _. nothing e
  shown-handle Link = if_linked _ s λ m ms _ _. nothing e
  shown-handle Ack = unless _ _ Dead _ λ _. unless _ _ MustWait _ λ _. nothing e
  shown-handle Fail = unless _ _ Dead _ λ _. nothing e
  shown-handle Detect = unless _ _ OutOfTurn _ λ _. unless _ _ MustWait _ λ _. nothing e
  shown-handle (BStep v) =
      unless _ _ OutOfTurn _ λ _.
      unless _ _ BadProgram _ λ _.
      pick_case (λ (o : Option RecordEntry). o ≡ Some e → Whose (BStep v)) (is_promoted s.role) (exec S s.b.guest (first (vals s.b.epoch s.inbox) v)).shown None
      (λ p _. inr (refl, p, promoted-failed s w p)) (λ _. nothing e)
  shown-handle (BEnd v) = unless _ _ OutOfTurn _ λ _. unless _ _ EpochsUsedUp _ λ _. go s.role
    where
      go : (o : Role) → IfTaken (λ t o. o ≡ Some e → Whose (BEnd v)) (ended s v o)
      go Following = unless _ _ MustWait _ λ _. nothing e
      go Failover = nothing e
      go Promoted = nothing e
  shown-handle (BInt i) = unless _ _ UnknownOperation _ λ _. nothing e

-- ---- a stop is for good

stopped-handle : (S : Setup) (s : Pair) (ev : Event) → is_failed s.phase ≡ true → IfTaken (λ t o. is_failed t.phase ≡ true) (handle S s ev)
unfolding handle ended on_b received acknowledged noticed halted is_failed
stopped-handle S s (PStep v) q = unless _ _ Dead _ λ n. clash q n
stopped-handle S s (PInt i) q = unless _ _ Dead _ λ n. clash q n
stopped-handle S s (PTime v) q = unless _ _ Dead _ λ n. clash q n
stopped-handle S s PEnd q = unless _ _ Dead _ λ n. clash q n
stopped-handle S s Link q = if_linked _ s λ m ms _ _. q
stopped-handle S s Ack q = unless _ _ Dead _ λ n. clash q n
stopped-handle S s Fail q = unless _ _ Dead _ λ n. clash q n
stopped-handle S s Detect q = unless _ _ OutOfTurn _ λ _. unless _ _ MustWait _ λ _. q
stopped-handle S s (BStep v) q = unless _ _ OutOfTurn _ λ _. unless _ _ BadProgram _ λ _. q
stopped-handle S s (BEnd v) q = unless _ _ OutOfTurn _ λ _. unless _ _ EpochsUsedUp _ λ _. go s.role
  where
    go : (o : Role) → IfTaken (λ t o. is_failed t.phase ≡ true) (ended s v o)
    go Following = unless _ _ MustWait _ λ _. q
    go Failover = q
    go Promoted = q
stopped-handle S s (BInt i) q =
    unless _ _ UnknownOperation _ λ _.
    pick_case (λ (t : Pair). is_failed t.phase ≡ true) (is_promoted s.role) (on_b s (buffers s.b i) s.role s.inbox) s (λ _. q) (λ _. q)

-- ---- in memory, from the bytes

pub never_two_lem : NeverTwo
unfolding outcome seen laid Whose
never_two_lem =
    record {
      shows = λ code s bytes e.
          if_stepped (λ (x : Outcome). x.shown ≡ Some e → ((get_or bytes 0 0 ≡ 1) × (is_failed s.phase ≡ false)) ⊎ ((get_or bytes 0 0 ≡ 9) × (is_promoted s.role ≡ true) × (is_failed s.phase ≡ true))) code s bytes (λ why. nothing e)
          λ ev r.
          if_apply _ code s ev λ m w.
          if_stored (λ t o. o ≡ Some e → ((kind ev ≡ 1) × (is_failed s.phase ≡ false)) ⊎ ((kind ev ≡ 9) × (is_promoted s.role ≡ true) × (is_failed s.phase ≡ true)))
          (λ t o. o ≡ Some e → ((get_or bytes 0 0 ≡ 1) × (is_failed s.phase ≡ false)) ⊎ ((get_or bytes 0 0 ≡ 9) × (is_promoted s.role ≡ true) × (is_failed s.phase ≡ true)))
          (λ t o f q. rw (← first_kind bytes ev r) (f q)) _ (shown-handle (setup_of code (seen s)) (seen s) w e ev);
      for_good = λ code s bytes q.
          if_stepped (λ (x : Outcome). is_failed x.pair.phase ≡ true) code s bytes (λ why. q)
          λ ev _.
          if_apply _ code s ev λ m w.
          if_stored (λ t o. is_failed t.phase ≡ true) (λ t o. is_failed t.phase ≡ true) (λ t o f. f) _ (stopped-handle (setup_of code (seen s)) (seen s) ev q);
    }
