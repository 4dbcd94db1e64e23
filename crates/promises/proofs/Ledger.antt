-- What every event keeps on the books of a history: epochs, the pair's L and N, and that nothing is in flight once a stop is detected.
use mathlib.Core.Bool.{false, true}
use mathlib.Core.List.{List, [], ◌++◌, ◌∷◌}
use mathlib.Core.Path.{◌∙◌, ◌≡◌, ap, refl, subst, sym}
use Prim.Native.Nat.{◌≤◌, suc, ℕ}
use borrow.Author.Tests.{eqb-false, eqb-true, not-false}
use lib.Dec.{eqb, lit≤}
use lib.ListN.{length, length-append}
use native.Mathlib.Numerals.{add-one}
use native.Mathlib.Omega.{arith}
use Rattle.rules.proofs.Choices.{clash, pick_case}
use Rattle.rules.proofs.PairKept.{if_step}
use Rattle.rules.proofs.PairWhole.{Whole}
use Rattle.rules.proofs.Verdicts.{IfTaken, if_after, if_linked, unless}
use Rattle.rules.specs.Events.{Verdict, ended, handle, kind, malformed, step, taken}
use Rattle.rules.specs.History.{History, after, feed, fresh_history, noted, recorded}
use Rattle.rules.specs.Messages.{only}
use Rattle.rules.specs.Pair.{acknowledged, buffers, enters, fresh_pair, halted, is_failed, is_promoted, next_epoch, noticed, on_b, on_p, ran_on, received, setup_of}
use Rattle.rules.specs.Program.{Setup}
use Rattle.rules.specs.declared.Event.{Event}
use Rattle.rules.specs.declared.Event.TheVariants.{Ack, BEnd, BInt, BStep, Detect, Fail, Link, PEnd, PInt, PStep, PTime}
use Rattle.rules.specs.declared.Guest.{Guest}
use Rattle.rules.specs.declared.Message.{Message}
use Rattle.rules.specs.declared.Pair.{Pair}
use Rattle.rules.specs.declared.RecordEntry.{RecordEntry}
use Rattle.rules.specs.declared.Refusal.TheVariants.{BadProgram, Dead, EpochsUsedUp, MustWait, OutOfTurn, UnknownOperation}
use Rattle.rules.specs.declared.Role.{Role}
use Rattle.rules.specs.declared.Role.TheVariants.{Failover, Following, Promoted}
use Rattle.std.specs.Prelude.{None}

pub record Ledger (S : Setup) (h : History) : Type 0 where
  -- the k-th guest of a card's list is its guest on entry to epoch k
  pub first : length h.entered_p ≡ h.pair.p.epoch.0
  pub second : length h.entered_b ≡ h.pair.b.epoch.0
  -- the pair keeps the L and the N that it was made with
  pub setup : setup_of S.code h.pair ≡ S
  pub arrived : h.pair.detected ≡ true → h.pair.link ≡ []
  pub limited : h.pair.p.epoch.0 ≤ 65535

pub no_length : (l : List Message) → length l ≡ 0 → l ≡ []
no_length [] q = refl
no_length (m ∷ l) q = absurd (omega arith)

pub no_cons {ℓ} : {X : Type ℓ} {l ms : List Message} {m : Message} → l ≡ [] → l ≡ m ∷ ms → X
no_cons p q = absurd (let z : ◌≡◌ {A = ℕ} 0 1 = cc in omega arith)

one_more : (l : List Guest) (g : Guest) (n : ℕ) → length l ≡ n → length (l ++ (g ∷ [])) ≡ suc n
one_more l g n q = length-append l (g ∷ []) ∙ add-one (length l) ∙ ap suc q

module _ (S : Setup) (h : History) (e : Ledger S h) (w : Whole h.pair) where
  Books : Event → Verdict → Type 0
  Books ev = IfTaken (λ t o. Ledger S (after ev h (taken t o)))

  -- no epoch is entered
  still : (t : Pair) (es : List RecordEntry) → t.p.epoch ≡ h.pair.p.epoch → t.b.epoch ≡ h.pair.b.epoch → setup_of S.code t ≡ setup_of S.code h.pair → (t.detected ≡ true → t.link ≡ [])
      → Ledger S (record { pair = t; shown = es; entered_p = h.entered_p; entered_b = h.entered_b })
  still t es p b k a = record { first = rw p e.first; second = rw b e.second; setup = k ∙ e.setup; arrived = a; limited = rw p e.limited }

  -- P enters its next epoch; B does
  turns_p : (t : Pair) (es : List RecordEntry) (g : Guest) → t.p.epoch ≡ next_epoch h.pair.p.epoch → t.b.epoch ≡ h.pair.b.epoch → setup_of S.code t ≡ setup_of S.code h.pair → (t.detected ≡ true → t.link ≡ []) → (h.pair.p.epoch.0 ≡ 65535 → ⊥)
      → Ledger S (record { pair = t; shown = es; entered_p = h.entered_p ++ (g ∷ []); entered_b = h.entered_b })
  turns_p t es g p b k a n = record { first = rw p (one_more h.entered_p g h.pair.p.epoch.0 e.first); second = rw b e.second; setup = k ∙ e.setup; arrived = a; limited = rw p (let z = e.limited in omega arith) }

  turns_b : (t : Pair) (es : List RecordEntry) (g : Guest) → t.p.epoch ≡ h.pair.p.epoch → t.b.epoch ≡ next_epoch h.pair.b.epoch → setup_of S.code t ≡ setup_of S.code h.pair → (t.detected ≡ true → t.link ≡ [])
      → Ledger S (record { pair = t; shown = es; entered_p = h.entered_p; entered_b = h.entered_b ++ (g ∷ []) })
  turns_b t es g p b k a = record { first = rw p e.first; second = rw b (one_more h.entered_b g h.pair.b.epoch.0 e.second); setup = k ∙ e.setup; arrived = a; limited = rw p e.limited }

  -- P has not failed, so nothing was detected
  unseen : is_failed h.pair.phase ≡ false → (l : List Message) → h.pair.detected ≡ true → l ≡ []
  unseen q l d = clash (w.turns.stopped d) q

  ledger_handle : (ev : Event) → Books ev (handle S h.pair ev)
  unfolding Books setup_of handle after kind recorded noted only on_p on_b ran_on buffers enters acknowledged halted noticed received ended
  ledger_handle (PStep v) = unless _ _ Dead _ λ q. unless _ _ OutOfTurn _ λ _. unless _ _ BadProgram _ λ _. still _ _ refl refl refl (unseen q _)
  ledger_handle (PInt j) = unless _ _ Dead _ λ q. unless _ _ UnknownOperation _ λ _. still _ _ refl refl refl (unseen q _)
  ledger_handle (PTime v) = unless _ _ Dead _ λ q. unless _ _ OutOfTurn _ λ _. still _ _ refl refl refl (unseen q _)
  ledger_handle PEnd =
      unless _ _ Dead _ λ q.
      unless _ _ OutOfTurn _ λ _.
      unless _ _ EpochsUsedUp _ λ n.
      unless _ _ MustWait _ λ _.
      turns_p _ _ _ refl refl refl (unseen q _) (eqb-false h.pair.p.epoch.0 65535 n)
  ledger_handle Link = if_linked _ h.pair λ m ms q _. still _ _ refl refl refl (λ d. no_cons (e.arrived d) q)
  ledger_handle Ack = unless _ _ Dead _ λ _. unless _ _ MustWait _ λ _. still _ _ refl refl refl e.arrived
  ledger_handle Fail = unless _ _ Dead _ λ _. still _ _ refl refl refl e.arrived
  ledger_handle Detect =
      unless _ _ OutOfTurn _ λ _.
      unless _ _ MustWait _ λ q.
      still _ _ refl refl refl (λ _. no_length h.pair.link (eqb-true (length h.pair.link) 0 (not-false (eqb (length h.pair.link) 0) q)))
  ledger_handle (BStep v) = unless _ _ OutOfTurn _ λ _. unless _ _ BadProgram _ λ _. still _ _ refl refl refl e.arrived
  ledger_handle (BEnd v) = unless _ _ OutOfTurn _ λ _. unless _ _ EpochsUsedUp _ λ _. go h.pair.role
    where
      go : (o : Role) → Books (BEnd v) (ended h.pair v o)
      go Following = unless _ _ MustWait _ λ _. turns_b _ _ _ refl refl refl e.arrived
      go Failover = turns_b _ _ _ refl refl refl e.arrived
      go Promoted = turns_b _ _ _ refl refl refl e.arrived
  ledger_handle (BInt j) =
      unless _ _ UnknownOperation _ λ _.
      pick_case (λ (t : Pair). Ledger S (after (BInt j) h (taken t None))) (is_promoted h.pair.role) _ h.pair (λ _. still _ _ refl refl refl e.arrived) (λ _. e)

-- ---- one event, and the tests in front of it, for whatever a history keeps

pub feed_keeps {κ} : (S : Setup) (Q : History → Type κ) (h : History) (ev : Event) → Ledger S h → Q h → (malformed ev ≡ false → Whole h.pair → IfTaken (λ t o. Q (after ev h (taken t o))) (handle S h.pair ev)) → Q (feed S h ev)
unfolding feed
feed_keeps S Q h ev e i f =
    if_after Q ev h (step S.code h.pair ev) i
    (if_step (λ t o. Q (after ev h (taken t o))) S.code h.pair ev λ m w. subst (λ (T : Setup). IfTaken (λ t o. Q (after ev h (taken t o))) (handle T h.pair ev)) (sym e.setup) (f m w))

pub ledger_feed : (S : Setup) (h : History) (ev : Event) → Ledger S h → Ledger S (feed S h ev)
unfolding Books
ledger_feed S h ev e = feed_keeps S (Ledger S) h ev e e λ _ w. ledger_handle S h e w ev

pub ledger_fresh : (S : Setup) → Ledger S (fresh_history S)
unfolding fresh_history fresh_pair setup_of
ledger_fresh S = record { first = refl; second = refl; setup = refl; arrived = λ q. clash q refl; limited = lit≤ tt }
