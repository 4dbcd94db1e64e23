-- How many messages of one epoch there can be: at most 58.
use mathlib.Core.Bool.{false, not}
use mathlib.Core.List.{List, [], ◌++◌, ◌∷◌, append_assoc}
use mathlib.Core.Path.{◌∙◌, ◌≡◌, ap, refl, subst, sym}
use Prim.Native.Nat.{◌+◌, ◌<◌, ◌≤◌, suc, zero-le, ℕ}
use borrow.Author.Tests.{eq-eqb, eqb-false, eqb-true, ne_eqb}
use lib.Dec.{eqb}
use lib.ListN.{length, length-append}
use native.Mathlib.Nat.{le_refl, le_trans}
use native.Mathlib.Omega.{arith}
use Rattle.rules.proofs.Choices.{by_cases, pick_case}
use Rattle.rules.proofs.Lists.{All, all_append, all_map, count-append, count-one}
use Rattle.rules.proofs.Messages.{Without, epoch_of, part_drop_epoch, part_unread, same-epoch}
use Rattle.rules.proofs.PairKept.{not_waiting, sends-length}
use Rattle.rules.proofs.PairWhole.{Whole, buffered, extra-one, spent}
use Rattle.rules.proofs.Parts.{Part, part_append, part_count, part_self}
use Rattle.rules.proofs.Verdicts.{IfTaken, if_linked, unless}
use Rattle.rules.specs.Events.{ended, handle, sends}
use Rattle.rules.specs.History.{History, after, feed, fresh_history, run}
use Rattle.rules.specs.Instruction.{complete}
use Rattle.rules.specs.Messages.{end, int, of_epoch, tme, val}
use Rattle.rules.specs.Pair.{acknowledged, buffers, enters, fresh_pair, halted, is_failed, is_promoted, is_waiting, next_epoch, noticed, on_b, on_p, ran_on, received}
use Rattle.rules.specs.Program.{Setup, at_time, exec}
use Rattle.rules.specs.Sound.{extra}
use Rattle.rules.specs.declared.Card.{Card}
use Rattle.rules.specs.declared.EpochNo.{EpochNo}
use Rattle.rules.specs.declared.Event.{Event}
use Rattle.rules.specs.declared.Event.TheVariants.{Ack, BEnd, BInt, BStep, Detect, Fail, Link, PEnd, PInt, PStep, PTime}
use Rattle.rules.specs.declared.Message.{Message}
use Rattle.rules.specs.declared.Pair.{Pair}
use Rattle.rules.specs.declared.Phase.{Phase}
use Rattle.rules.specs.declared.Phase.TheVariants.{Running, Waiting}
use Rattle.rules.specs.declared.Refusal.TheVariants.{BadProgram, Dead, EpochsUsedUp, MustWait, OutOfTurn, UnknownOperation}
use Rattle.rules.specs.declared.Role.{Role}
use Rattle.rules.specs.declared.Role.TheVariants.{Failover, Following, Promoted}
use Rattle.slots.proofs.Lists.{keep-length, keep-nil, keep_out}
use Rattle.slots.proofs.Tests.{or_false}
use Rattle.slots.specs.Slots.{count, keep}
use Rattle.promises.proofs.Invariant.{living}
use Rattle.promises.proofs.Ledger.{feed_keeps}
use Rattle.promises.proofs.OneCard.{Stage, first_stage, next_stage}
use Rattle.promises.proofs.Wires.{wires_epochs}

-- ---- counting by epoch

count-without : (e : EpochNo) (ms : List Message) → Without e ms → count (of_epoch e) ms ≡ 0
unfolding of_epoch
count-without e [] a = ap length (keep-nil (of_epoch e))
count-without e (m ∷ ms) a = ap length (keep_out (of_epoch e) m ms (ne_eqb (epoch_of m) e.0 a.0)) ∙ count-without e ms a.1

-- all messages are of two epochs
pub count-two : (e : EpochNo) (ms : List Message) → All (λ m. e.0 ≤ epoch_of m) ms → All (λ m. epoch_of m ≤ suc e.0) ms → length ms ≤ count (of_epoch e) ms + count (of_epoch (next_epoch e)) ms
unfolding of_epoch
count-two e [] a b = zero-le
count-two e (m ∷ ms) a b =
    let ih = count-two e ms a.1 b.1 in
    let c = count-append (of_epoch e) (m ∷ []) ms in
    let d = count-append (of_epoch (next_epoch e)) (m ∷ []) ms in
    by_cases (eqb (epoch_of m) e.0)
    (λ q. let k = count-one (of_epoch e) m q in omega arith)
    (λ q. let k = count-one (of_epoch (next_epoch e)) m (eq-eqb (epoch_of m) (suc e.0) (next_one (epoch_of m) e.0 (eqb-false (epoch_of m) e.0 q) a.0 b.0)) in omega arith)
  where
    next_one : (x y : ℕ) → (x ≡ y → ⊥) → y ≤ x → x ≤ suc y → x ≡ suc y
    next_one x y n p q = omega arith

-- ---- of the epoch at hand no more than P has spent; of a finished one 58

pub record Flow (s : Pair) : Type 0 where
  pub current : count (of_epoch s.p.epoch) (s.inbox ++ s.link) ≤ spent s
  pub finished : (e : EpochNo) → e.0 < s.p.epoch.0 → count (of_epoch e) (s.inbox ++ s.link) ≤ 58

-- P has spent 57 at most
spent_most : (s : Pair) → Whole s → spent s ≤ 57
unfolding spent
spent_most s w = let a = w.first.forty in let b = buffered s.p w.first.sixteen w.first_buffer in let c = extra-one s.phase in omega arith

pub count_58 : (s : Pair) → Whole s → Flow s → (e : EpochNo) → e.0 ≤ s.p.epoch.0 → count (of_epoch e) (s.inbox ++ s.link) ≤ 58
count_58 s w f e h =
    by_cases (eqb e.0 s.p.epoch.0)
    (λ q. let a = f.current in let b = spent_most s w in rw (same-epoch e s.p.epoch (eqb-true e.0 s.p.epoch.0 q)) (omega arith))
    (λ q. f.finished e (let n = eqb-false e.0 s.p.epoch.0 q in omega arith))

module _ (S : Setup) (s : Pair) (w : Whole s) (f : Flow s) where
  -- P sends x in its epoch, and spends as much
  flow_send : (c : Card) (g : Phase) (x : List Message) → c.epoch ≡ s.p.epoch → All (λ m. epoch_of m ≡ s.p.epoch.0) x → spent s + length x ≤ spent (on_p s c g x) → Flow (on_p s c g x)
  unfolding on_p
  flow_send c g x q a h =
      record {
        current = subst (λ (n : EpochNo). count (of_epoch n) (s.inbox ++ (s.link ++ x)) ≤ spent (on_p s c g x)) (sym q) (let k = more s.p.epoch in let y = f.current in let z = keep-length (of_epoch s.p.epoch) x in omega arith);
        finished = λ e b.
            let b' : e.0 < s.p.epoch.0 = subst (λ (n : EpochNo). e.0 < n.0) q b in
            let k = more e in
            let y = f.finished e b' in
            let z = count-without e x (all_map (λ (m : Message). epoch_of m ≡ s.p.epoch.0) (λ (m : Message). epoch_of m ≡ e.0 → ⊥) (λ m u v. omega arith) x a) in
            omega arith;
      }
    where
      more : (e : EpochNo) → count (of_epoch e) (s.inbox ++ (s.link ++ x)) ≡ count (of_epoch e) (s.inbox ++ s.link) + count (of_epoch e) x
      more e = ap (count (of_epoch e)) (sym (append_assoc s.inbox s.link x)) ∙ count-append (of_epoch e) (s.inbox ++ s.link) x

  -- PEND: the epoch's messages and its end are 58 at most, and there is none yet of the next
  flow_end : (c : Card) → c.epoch ≡ next_epoch s.p.epoch → All (λ m. epoch_of m ≤ s.p.epoch.0) (s.inbox ++ s.link) → Flow (on_p s c Running (end s.p.epoch ∷ []))
  unfolding on_p end
  flow_end c q a =
      let m : Message = end s.p.epoch in
      let none = count-without (next_epoch s.p.epoch) (s.inbox ++ (s.link ++ (m ∷ [])))
      (subst (Without (next_epoch s.p.epoch)) (append_assoc s.inbox s.link (m ∷ []))
      (all_append (λ (x : Message). epoch_of x ≡ suc s.p.epoch.0 → ⊥) (s.inbox ++ s.link) (m ∷ []) (all_map (λ (x : Message). epoch_of x ≤ s.p.epoch.0) (λ (x : Message). epoch_of x ≡ suc s.p.epoch.0 → ⊥) (λ x u v. omega arith) (s.inbox ++ s.link) a) (λ v. omega arith, tt))) in
      record {
        current = rw q (omega arith);
        finished = λ e b.
            let b' : e.0 < suc s.p.epoch.0 = subst (λ (n : EpochNo). e.0 < n.0) q b in
            let k = more e in
            by_cases (eqb e.0 s.p.epoch.0)
            (λ y. let x = f.current in let t = spent_most s w in let u = keep-length (of_epoch e) (m ∷ []) in let v : count (of_epoch e) (s.inbox ++ s.link) ≤ spent s = rw (same-epoch e s.p.epoch (eqb-true e.0 s.p.epoch.0 y)) x in omega arith)
            (λ y. let n = eqb-false e.0 s.p.epoch.0 y in let x = f.finished e (omega arith) in let u = count-without e (m ∷ []) (λ v. n (sym v), tt) in omega arith);
      }
    where
      more : (e : EpochNo) → count (of_epoch e) (s.inbox ++ (s.link ++ (end s.p.epoch ∷ []))) ≡ count (of_epoch e) (s.inbox ++ s.link) + count (of_epoch e) (end s.p.epoch ∷ [])
      more e = ap (count (of_epoch e)) (sym (append_assoc s.inbox s.link (end s.p.epoch ∷ []))) ∙ count-append (of_epoch e) (s.inbox ++ s.link) (end s.p.epoch ∷ [])

  -- a part of the messages is left, and P has spent no less
  flow_part : (t : Pair) → t.p.epoch ≡ s.p.epoch → spent s ≤ spent t → Part (t.inbox ++ t.link) (s.inbox ++ s.link) → Flow t
  flow_part t q h r =
      record {
        current = subst (λ (n : EpochNo). count (of_epoch n) (t.inbox ++ t.link) ≤ spent t) (sym q) (le_trans (part_count (of_epoch s.p.epoch) r) (le_trans f.current h));
        finished = λ e b. le_trans (part_count (of_epoch e) r) (f.finished e (subst (λ (n : EpochNo). e.0 < n.0) q b));
      }

  flow_handle : (is_failed s.phase ≡ false → All (λ m. epoch_of m ≤ s.p.epoch.0) (s.inbox ++ s.link)) → (ev : Event) → IfTaken (λ t o. Flow t) (handle S s ev)
  unfolding handle ended on_p on_b ran_on buffers enters received acknowledged halted noticed spent extra sends val int tme
  flow_handle b (PStep v) =
      unless _ _ Dead _ λ _.
      unless _ _ OutOfTurn _ λ _.
      unless _ _ BadProgram _ λ _.
      flow_send (ran_on s.p (exec S s.p.guest v).guest) s.phase (sends S s.p v) refl
      (pick_case (All (λ (m : Message). epoch_of m ≡ s.p.epoch.0)) (at_time S s.p.guest) (val s.p.epoch v ∷ []) [] (λ _. (refl, tt)) (λ _. tt))
      (let k = sends-length S s.p v in omega arith)
  flow_handle b (PInt i) = unless _ _ Dead _ λ _. unless _ _ UnknownOperation _ λ _. flow_send (buffers s.p i) s.phase (int s.p.epoch i ∷ []) refl (refl, tt) (let k = length-append s.p.buffer (i ∷ []) in omega arith)
  flow_handle b (PTime v) =
      unless _ _ Dead _ λ q₁.
      unless _ _ OutOfTurn _ λ q₂.
      flow_send s.p (Waiting v) (tme s.p.epoch v ∷ []) refl (refl, tt) (let z = not_waiting s.phase q₁ (or_false (not (complete S.limit s.p.guest)) (is_waiting s.phase) q₂).1 in omega arith)
  flow_handle b PEnd =
      unless _ _ Dead _ λ q₁.
      unless _ _ OutOfTurn _ λ _.
      unless _ _ EpochsUsedUp _ λ _.
      unless _ _ MustWait _ λ _.
      flow_end _ refl (b q₁)
  flow_handle b Link = if_linked _ s λ m ms e _. flow_part _ refl (le_refl (spent s)) (subst (λ (l : List Message). Part l (s.inbox ++ s.link)) (ap (λ (l : List Message). s.inbox ++ l) e ∙ sym (append_assoc s.inbox (m ∷ []) ms)) (part_self (s.inbox ++ s.link)))
  flow_handle b Ack = unless _ _ Dead _ λ _. unless _ _ MustWait _ λ _. flow_part _ refl (le_refl (spent s)) (part_self (s.inbox ++ s.link))
  flow_handle b Fail = unless _ _ Dead _ λ _. flow_part _ refl (let x = extra-one s.phase in omega arith) (part_self (s.inbox ++ s.link))
  flow_handle b Detect = unless _ _ OutOfTurn _ λ _. unless _ _ MustWait _ λ _. flow_part _ refl (le_refl (spent s)) (part_self (s.inbox ++ s.link))
  flow_handle b (BStep v) = unless _ _ OutOfTurn _ λ _. unless _ _ BadProgram _ λ _. flow_part _ refl (le_refl (spent s)) (part_append (part_unread S s.b.epoch s.b.guest s.inbox) s.link)
  flow_handle b (BEnd v) = unless _ _ OutOfTurn _ λ _. unless _ _ EpochsUsedUp _ λ _. go s.role
    where
      go : (o : Role) → IfTaken (λ t o. Flow t) (ended s v o)
      go Following = unless _ _ MustWait _ λ _. flow_part _ refl (le_refl (spent s)) (part_append (part_drop_epoch s.b.epoch s.inbox) s.link)
      go Failover = flow_part _ refl (le_refl (spent s)) (part_append (part_drop_epoch s.b.epoch s.inbox) s.link)
      go Promoted = flow_part _ refl (le_refl (spent s)) (part_self (s.inbox ++ s.link))
  flow_handle b (BInt i) = unless _ _ UnknownOperation _ λ _. pick_case Flow (is_promoted s.role) _ s (λ _. flow_part _ refl (le_refl (spent s)) (part_self (s.inbox ++ s.link))) (λ _. f)

-- ---- along a run

flow_run : (S : Setup) (h : History) (t : Stage S h) (evs : List Event) → Flow h.pair → Flow (run S h evs).pair
unfolding run after
flow_run S h t [] f = f
flow_run S h t (ev ∷ evs) f =
    flow_run S (feed S h ev) (next_stage S h t ev) evs
    (feed_keeps S (λ (k : History). Flow k.pair) h ev t.ledger f λ m w.
    flow_handle S h.pair w f (λ q. wires_epochs h.pair.b.epoch h.pair.p.epoch h.pair.inbox h.pair.link (living S t.past h t.ledger w t.inv q).wires) ev)

pub flow_reached : (S : Setup) (evs : List Event) → Flow (run S (fresh_history S) evs).pair
unfolding fresh_history fresh_pair keep
flow_reached S evs = flow_run S (fresh_history S) (first_stage S) evs (record { current = zero-le; finished = λ e b. zero-le })
