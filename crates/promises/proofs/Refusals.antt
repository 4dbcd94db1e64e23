-- Each refusal comes in its named situation, and in no other.
use mathlib.Core.Bool.{Bool, ◌&&◌, false, not, true}
use mathlib.Core.List.{List, [], ◌∷◌}
use mathlib.Core.Logic.{◌↔◌, ◌⊎◌, inl, inr}
use mathlib.Core.Path.{◌∙◌, ◌≡◌, ap, refl, subst, sym}
use Prim.Native.Nat.{◌*◌, ℕ}
use borrow.Author.Tests.{eq-eqb, eqb-false, eqb-true, le-leb, leb-true, ne_eqb, not-false, not-true}
use lib.Dec.{eqb}
use lib.ListN.{length}
use native.Mathlib.Omega.{arith}
use Rattle.rules.proofs.Answers.{not_zero, one_number}
use Rattle.rules.proofs.Choices.{and_right, by_cases, clash, nor_other, or_other, or_right}
use Rattle.rules.specs.Bytes.{apply_read, read_event, stepped}
use Rattle.rules.specs.Events.{Verdict, ended, handle, in_front, linked, malformed, number, refuse, refused, taken}
use Rattle.rules.specs.Instruction.{complete}
use Rattle.rules.specs.Messages.{has_end}
use Rattle.rules.specs.Pair.{awaited, idle, is_failed, is_promoted, is_waiting, next_epoch, setup_of}
use Rattle.rules.specs.PairSlots.{answer_number, apply, outcome, seen, sound_pair, stored}
use Rattle.rules.specs.Program.{good, under}
use Rattle.rules.specs.Sound.{unacknowledged}
use Rattle.rules.specs.declared.Event.{Event}
use Rattle.rules.specs.declared.Event.TheVariants.{Ack, BEnd, BInt, BStep, Detect, Fail, Link, PEnd, PInt, PStep, PTime}
use Rattle.rules.specs.declared.Message.{Message}
use Rattle.rules.specs.declared.Outcome.{Outcome}
use Rattle.rules.specs.declared.Pair.{Pair}
use Rattle.rules.specs.declared.Phase.{Phase}
use Rattle.rules.specs.declared.Phase.TheVariants.{Failed, Running, Waiting}
use Rattle.rules.specs.declared.Refusal.{Refusal}
use Rattle.rules.specs.declared.Refusal.TheVariants.{BadFile, BadProgram, Dead, EpochsUsedUp, InboxFull, Malformed, MustWait, OutOfTurn, TooShort, UnknownOperation, Unsound}
use Rattle.rules.specs.declared.Role.{Role}
use Rattle.rules.specs.declared.Role.TheVariants.{Failover, Following, Promoted}
use Rattle.slots.proofs.Tests.{and_true, or_false}
use Rattle.promises.proofs.Ledger.{no_cons}
use Rattle.promises.proofs.Runs.{made-bad, made-good}
use Rattle.promises.specs.Refusals.{At, Broken, Comes, Dying, Formed, Full, MayEnd, Misformed, Refusals, SetUps, Unknown, Untimely, UsedUp, Waits, ack_dead, ack_none, bend_early, bend_last, bend_neither, bint_unknown, bstep_bad, bstep_done, bstep_idle, detect_again, detect_early, detect_in_flight, fail_dead, link_empty, link_no_room, pend_dead, pend_early, pend_last, pend_unacknowledged, pint_dead, pint_unknown, pstep_bad, pstep_dead, pstep_done, ptime_again, ptime_dead, ptime_early}
use Rattle.std.specs.Prelude.{Some, None, Option}

-- ---- why a verdict refuses

abbrev Told : (Refusal → Type 0) → Verdict → Type 0
Told W (refused why) = W why
Told W (taken s o) = Unit

because : (W : Refusal → Type 0) (b : Bool) (why : Refusal) (v : Verdict) → (b ≡ true → W why) → (b ≡ false → Told W v) → Told W (refuse b why v)
unfolding refuse
because W true why v f g = f refl
because W false why v f g = g refl

refuse_here : {b : Bool} (why : Refusal) (v : Verdict) → b ≡ true → refuse b why v ≡ refused why
unfolding refuse
refuse_here why v q = rw (q, refuse)

refuse-later : {b : Bool} {late : Refusal} {v : Verdict} (why : Refusal) → b ≡ false → v ≡ refused late → refuse b why v ≡ refused late
unfolding refuse
refuse-later why q r = rw (q, refuse) r

-- ---- the event's own column

-- the situation of each refusal
Why : List ℕ → Pair → Event → Refusal → Type 0
Why code s ev Malformed = ⊥
Why code s ev Dead = Dying s ev
Why code s ev OutOfTurn = Untimely s ev
Why code s ev MustWait = Waits s ev
Why code s ev UnknownOperation = Unknown s ev
Why code s ev InboxFull = Full s ev
Why code s ev EpochsUsedUp = UsedUp s ev
Why code s ev BadProgram = Broken code s ev
Why code s ev TooShort = ⊥
Why code s ev BadFile = ⊥
Why code s ev Unsound = ⊥

alive_waits : (f : Phase) → is_waiting f ≡ true → is_failed f ≡ false
unfolding is_waiting is_failed
alive_waits Running q = clash q refl
alive_waits (Waiting c) q = refl
alive_waits Failed q = clash q refl

-- B may end its epoch, as the test says it
pub may_end : (s : Pair) → not (idle s) && not (complete s.limit s.b.guest) ≡ false → MayEnd s
may_end s q = by_cases (idle s) inl (λ z. inr (nor_other (idle s) (complete s.limit s.b.guest) q z))

pub end_may : (s : Pair) → MayEnd s → not (idle s) && not (complete s.limit s.b.guest) ≡ false
end_may s (inl q) = rw q
end_may s (inr q) = and_right (not (idle s)) (not (complete s.limit s.b.guest)) (ap not q)

module _ (code : List ℕ) (s : Pair) where
  told-handle : (ev : Event) → Told (Why code s ev) (handle (setup_of code s) s ev)
  unfolding Why handle setup_of linked ended
  told-handle (PStep w) = because _ _ Dead _ (pstep_dead w) λ a. because _ _ OutOfTurn _ (pstep_done w a) λ c. because _ _ BadProgram _ (pstep_bad w a c) λ _. tt
  told-handle (PInt i) = because _ _ Dead _ (pint_dead i) λ a. because _ _ UnknownOperation _ (λ n. pint_unknown i a (not-true (awaited s.p i.op) n)) λ _. tt
  told-handle (PTime w) =
      because _ _ Dead _ (ptime_dead w) λ a.
      because _ _ OutOfTurn _ (λ q. by_cases (complete s.limit s.p.guest) (λ c. ptime_again w a (or_other (not (complete s.limit s.p.guest)) (is_waiting s.phase) q (ap not c))) (ptime_early w a)) λ _. tt
  told-handle PEnd =
      because _ _ Dead _ pend_dead λ a.
      because _ _ OutOfTurn _ (λ n. pend_early a (not-true (is_waiting s.phase) n)) λ n.
      let z = not-false (is_waiting s.phase) n in
      because _ _ EpochsUsedUp _ (λ q. pend_last z (eqb-true s.p.epoch.0 65535 q)) λ q.
      because _ _ MustWait _ (λ u. pend_unacknowledged z (eqb-false s.p.epoch.0 65535 q) (eqb-false (unacknowledged s) 0 (not-true (eqb (unacknowledged s) 0) u))) λ _. tt
  told-handle Link = go s.link refl
    where
      go : (l : List Message) → s.link ≡ l → Told (Why code s Link) (linked s l)
      go [] e = link_empty e
      go (m ∷ ms) e = because _ _ InboxFull _ (λ q. link_no_room (λ z. no_cons z e) (leb-true 128 (length s.inbox) q)) λ _. tt
  told-handle Ack = because _ _ Dead _ ack_dead λ a. because _ _ MustWait _ (λ q. ack_none a (eqb-true s.acks 0 q)) λ _. tt
  told-handle Fail = because _ _ Dead _ fail_dead λ _. tt
  told-handle Detect =
      because _ _ OutOfTurn _ (λ q. by_cases (is_failed s.phase) (λ f. detect_again (or_other (not (is_failed s.phase)) s.detected q (ap not f))) detect_early) λ q.
      let a = or_false (not (is_failed s.phase)) s.detected q in
      because _ _ MustWait _ (λ n. detect_in_flight (not-false (is_failed s.phase) a.0) a.1 (eqb-false (length s.link) 0 (not-true (eqb (length s.link) 0) n))) λ _. tt
  told-handle (BStep w) =
      because _ _ OutOfTurn _ (λ q. by_cases (idle s) (bstep_idle w) (λ z. bstep_done w (or_other (idle s) (complete s.limit s.b.guest) q z))) λ q.
      let a = or_false (idle s) (complete s.limit s.b.guest) q in
      because _ _ BadProgram _ (bstep_bad w a.0 a.1) λ _. tt
  told-handle (BEnd w) =
      because _ _ OutOfTurn _ (λ q. let a = and_true (not (idle s)) (not (complete s.limit s.b.guest)) q in bend_early w (not-true (idle s) a.0) (not-true (complete s.limit s.b.guest) a.1)) λ q.
      because _ _ EpochsUsedUp _ (λ l. bend_last w (may_end s q) (eqb-true s.b.epoch.0 65535 l)) λ l.
      go s.role refl (may_end s q) (eqb-false s.b.epoch.0 65535 l)
    where
      go : (o : Role) → s.role ≡ o → MayEnd s → (s.b.epoch.0 ≡ 65535 → ⊥) → Told (Why code s (BEnd w)) (ended s w o)
      go Following r m l =
          because _ _ MustWait _
          (λ q. let a = and_true (not (has_end (next_epoch s.b.epoch) s.inbox)) (not s.detected) q in bend_neither w m l r (not-true (has_end (next_epoch s.b.epoch) s.inbox) a.0) (not-true s.detected a.1)) λ _. tt
      go Failover r m l = tt
      go Promoted r m l = tt
  told-handle (BInt i) =
      because _ _ UnknownOperation _ (λ q. let a = and_true (is_promoted s.role) (not (awaited s.b i.op)) q in bint_unknown i a.0 (not-true (awaited s.b i.op) a.1)) λ _. tt

  -- and back
  handle-dead : (ev : Event) → Dying s ev → handle (setup_of code s) s ev ≡ refused Dead
  unfolding handle
  handle-dead ev (pstep_dead w q) = refuse_here Dead _ q
  handle-dead ev (pint_dead i q) = refuse_here Dead _ q
  handle-dead ev (ptime_dead w q) = refuse_here Dead _ q
  handle-dead ev (pend_dead q) = refuse_here Dead _ q
  handle-dead ev (ack_dead q) = refuse_here Dead _ q
  handle-dead ev (fail_dead q) = refuse_here Dead _ q

  handle_untimely : (ev : Event) → Untimely s ev → handle (setup_of code s) s ev ≡ refused OutOfTurn
  unfolding handle setup_of
  handle_untimely ev (pstep_done w a c) = refuse-later _ a (refuse_here OutOfTurn _ c)
  handle_untimely ev (ptime_early w a c) = refuse-later _ a (refuse_here OutOfTurn _ (rw c))
  handle_untimely ev (ptime_again w a q) = refuse-later _ a (refuse_here OutOfTurn _ (or_right (not (complete s.limit s.p.guest)) (is_waiting s.phase) q))
  handle_untimely ev (pend_early a q) = refuse-later _ a (refuse_here OutOfTurn _ (ap not q))
  handle_untimely ev (detect_early q) = refuse_here OutOfTurn _ (rw q)
  handle_untimely ev (detect_again q) = refuse_here OutOfTurn _ (or_right (not (is_failed s.phase)) s.detected q)
  handle_untimely ev (bstep_idle w q) = refuse_here OutOfTurn _ (rw q)
  handle_untimely ev (bstep_done w q) = refuse_here OutOfTurn _ (or_right (idle s) (complete s.limit s.b.guest) q)
  handle_untimely ev (bend_early w a c) = refuse_here OutOfTurn _ (rw (a, c))

  handle-waits : (ev : Event) → Waits s ev → handle (setup_of code s) s ev ≡ refused MustWait
  unfolding handle setup_of linked ended
  handle-waits ev (pend_unacknowledged z l u) =
      refuse-later _ (alive_waits s.phase z) (refuse-later _ (ap not z) (refuse-later _ (ne_eqb s.p.epoch.0 65535 l) (refuse_here MustWait _ (ap not (ne_eqb (unacknowledged s) 0 u)))))
  handle-waits ev (link_empty e) = ap (linked s) e
  handle-waits ev (ack_none a q) = refuse-later _ a (refuse_here MustWait _ (eq-eqb s.acks 0 q))
  handle-waits ev (detect_in_flight f d l) = refuse-later _ (rw (f, d)) (refuse_here MustWait _ (ap not (ne_eqb (length s.link) 0 l)))
  handle-waits ev (bend_neither w m l r n d) =
      refuse-later _ (end_may s m) (refuse-later _ (ne_eqb s.b.epoch.0 65535 l) (ap (ended s w) r ∙ refuse_here MustWait _ (rw (n, d))))

  handle-unknown : (ev : Event) → Unknown s ev → handle (setup_of code s) s ev ≡ refused UnknownOperation
  unfolding handle
  handle-unknown ev (pint_unknown i a q) = refuse-later _ a (refuse_here UnknownOperation _ (ap not q))
  handle-unknown ev (bint_unknown i p q) = refuse_here UnknownOperation _ (rw (p, q))

  handle-full : (ev : Event) → Full s ev → handle (setup_of code s) s ev ≡ refused InboxFull
  unfolding handle linked
  handle-full ev (link_no_room n q) = go s.link refl
    where
      go : (l : List Message) → s.link ≡ l → linked s l ≡ refused InboxFull
      go [] e = absurd (n e)
      go (m ∷ ms) e = refuse_here InboxFull _ (le-leb 128 (length s.inbox) q)

  handle_used_up : (ev : Event) → UsedUp s ev → handle (setup_of code s) s ev ≡ refused EpochsUsedUp
  unfolding handle setup_of
  handle_used_up ev (pend_last z q) = refuse-later _ (alive_waits s.phase z) (refuse-later _ (ap not z) (refuse_here EpochsUsedUp _ (eq-eqb s.p.epoch.0 65535 q)))
  handle_used_up ev (bend_last w m q) = refuse-later _ (end_may s m) (refuse_here EpochsUsedUp _ (eq-eqb s.b.epoch.0 65535 q))

  handle_broken : (ev : Event) → Broken code s ev → handle (setup_of code s) s ev ≡ refused BadProgram
  unfolding handle setup_of
  handle_broken ev (pstep_bad w a c d) = refuse-later _ a (refuse-later _ c (refuse_here BadProgram _ d))
  handle_broken ev (bstep_bad w a c d) = refuse-later _ (rw (a, c)) (refuse_here BadProgram _ d)

  handle_why : (ev : Event) (why : Refusal) → Why code s ev why → handle (setup_of code s) s ev ≡ refused why
  unfolding Why
  handle_why ev Malformed x = absurd x
  handle_why ev Dead x = handle-dead ev x
  handle_why ev OutOfTurn x = handle_untimely ev x
  handle_why ev MustWait x = handle-waits ev x
  handle_why ev UnknownOperation x = handle-unknown ev x
  handle_why ev InboxFull x = handle-full ev x
  handle_why ev EpochsUsedUp x = handle_used_up ev x
  handle_why ev BadProgram x = handle_broken ev x
  handle_why ev TooShort x = absurd x
  handle_why ev BadFile x = absurd x
  handle_why ev Unsound x = absurd x

-- ---- from the bytes

module _ (code : List ℕ) (s : Pair) (bytes : List ℕ) where
  Situation : Refusal → Type 0
  Situation Malformed = Misformed bytes
  Situation Dead = At code s bytes (Dying (seen s))
  Situation OutOfTurn = At code s bytes (Untimely (seen s))
  Situation MustWait = At code s bytes (Waits (seen s))
  Situation UnknownOperation = At code s bytes (Unknown (seen s))
  Situation InboxFull = At code s bytes (Full (seen s))
  Situation EpochsUsedUp = At code s bytes (UsedUp (seen s))
  Situation BadProgram = (Formed bytes × (sound_pair s ≡ true) × (length code ≡ 4 * s.count → ⊥)) ⊎ At code s bytes (Broken code (seen s))
  Situation TooShort = ⊥
  Situation BadFile = ⊥
  Situation Unsound = Formed bytes × (sound_pair s ≡ false)

  in_column : (ev : Event) → Comes code s bytes ev → (why : Refusal) → Why code (seen s) ev why → Situation why
  unfolding Situation Why
  in_column ev c Malformed x = absurd x
  in_column ev c Dead x = (ev, c, x)
  in_column ev c OutOfTurn x = (ev, c, x)
  in_column ev c MustWait x = (ev, c, x)
  in_column ev c UnknownOperation x = (ev, c, x)
  in_column ev c InboxFull x = (ev, c, x)
  in_column ev c EpochsUsedUp x = (ev, c, x)
  in_column ev c BadProgram x = inr (ev, c, x)
  in_column ev c TooShort x = absurd x
  in_column ev c BadFile x = absurd x
  in_column ev c Unsound x = absurd x

  told-bytes : Told Situation (apply_read code s (read_event bytes))
  unfolding Situation apply_read apply in_front stored setup_of seen
  told-bytes = go (read_event bytes) refl
    where
      by_verdict : (ev : Event) → Comes code s bytes ev → (v : Verdict) → Told (Why code (seen s) ev) v → Told Situation (stored v)
      by_verdict ev c (refused why) x = in_column ev c why x
      by_verdict ev c (taken t o) x = tt

      go : (r : Option Event) → read_event bytes ≡ r → Told Situation (apply_read code s r)
      go None q = inl q
      go (Some ev) q =
          because Situation (malformed ev) Malformed _ (λ m. inr (ev, q, m)) λ m.
          because Situation (not (sound_pair s)) Unsound _ (λ n. ((ev, q, m), not-true (sound_pair s) n)) λ n.
          let k = not-false (sound_pair s) n in
          because Situation (not (eqb (length code) (4 * s.count))) BadProgram _ (λ l. inl ((ev, q, m), k, eqb-false (length code) (4 * s.count) (not-true (eqb (length code) (4 * s.count)) l))) λ l.
          by_verdict ev (record { read = q; formed = m; sound = k; fits = eqb-true (length code) (4 * s.count) (not-false (eqb (length code) (4 * s.count)) l) }) (handle (setup_of code (seen s)) (seen s) ev) (told-handle code (seen s) ev)

  -- an event in its column
  column : (ev : Event) (why : Refusal) → Comes code s bytes ev → Why code (seen s) ev why → apply_read code s (read_event bytes) ≡ refused why
  unfolding apply_read apply in_front stored setup_of seen
  column ev why c x =
      ap (apply_read code s) c.read
      ∙ refuse-later _ c.formed (refuse-later _ (ap not c.sound) (refuse-later _ (ap not (eq-eqb (length code) (4 * s.count) c.fits)) (ap stored (handle_why code (seen s) ev why x))))

  bytes-told : (why : Refusal) → Situation why → apply_read code s (read_event bytes) ≡ refused why
  unfolding Situation apply_read apply in_front Why
  bytes-told Malformed (inl q) = ap (apply_read code s) q
  bytes-told Malformed (inr x) = ap (apply_read code s) x.1 ∙ refuse_here Malformed _ x.2
  bytes-told Dead x = column x.0 Dead x.1 x.2
  bytes-told OutOfTurn x = column x.0 OutOfTurn x.1 x.2
  bytes-told MustWait x = column x.0 MustWait x.1 x.2
  bytes-told UnknownOperation x = column x.0 UnknownOperation x.1 x.2
  bytes-told InboxFull x = column x.0 InboxFull x.1 x.2
  bytes-told EpochsUsedUp x = column x.0 EpochsUsedUp x.1 x.2
  bytes-told BadProgram (inl x) =
      ap (apply_read code s) x.0.1
      ∙ refuse-later _ x.0.2 (refuse-later _ (ap not x.1) (refuse_here BadProgram _ (ap not (ne_eqb (length code) (4 * s.count) x.2))))
  bytes-told BadProgram (inr x) = column x.0 BadProgram x.1 x.2
  bytes-told TooShort x = absurd x
  bytes-told BadFile x = absurd x
  bytes-told Unsound x = ap (apply_read code s) x.0.1 ∙ refuse-later _ x.0.2 (refuse_here Unsound _ (ap not x.1))

  -- ---- as numbers

  pub answered : (v : Verdict) (why : Refusal) → answer_number (outcome s v).answer ≡ number why → v ≡ refused why
  unfolding outcome answer_number
  answered (refused w) why q = ap {B = Verdict} refused (one_number w why q)
  answered (taken t o) why q = absurd (let k = not_zero why in omega arith)

  iff : (why : Refusal) → answer_number (stepped code s bytes).answer ≡ number why ↔ Situation why
  unfolding stepped outcome answer_number
  iff why = (
    λ q. subst (Told Situation) (answered (apply_read code s (read_event bytes)) why q) told-bytes,
    λ x. ap (λ (v : Verdict). answer_number (outcome s v).answer) (bytes-told why x),
  )

  pub refusals : Refusals code s bytes
  unfolding Situation number
  refusals =
      record {
        malformed = iff Malformed;
        dead = iff Dead;
        out_of_turn = iff OutOfTurn;
        must_wait = iff MustWait;
        unknown_operation = iff UnknownOperation;
        inbox_full = iff InboxFull;
        epochs_used_up = iff EpochsUsedUp;
        bad_program = iff BadProgram;
        unsound = iff Unsound;
        others = ((iff TooShort).0, (iff BadFile).0);
      }

-- ---- set-up

pub set_ups_lem : (code : List ℕ) (l : ℕ) → SetUps code l
unfolding answer_number number
set_ups_lem code l =
    record {
      taken = (λ q. by_cases (good (under code l)) (λ g. g) (λ g. absurd (let z : ◌≡◌ {A = ℕ} 8 0 = sym (ap (λ (o : Outcome). answer_number o.answer) (made-bad (under code l) g)) ∙ q in omega arith)), λ g. ap (λ (o : Outcome). answer_number o.answer) (made-good (under code l) g));
      bad_program = (λ q. by_cases (good (under code l)) (λ g. absurd (let z : ◌≡◌ {A = ℕ} 0 8 = sym (ap (λ (o : Outcome). answer_number o.answer) (made-good (under code l) g)) ∙ q in omega arith)) (λ g. g), λ g. ap (λ (o : Outcome). answer_number o.answer) (made-bad (under code l) g));
    }
