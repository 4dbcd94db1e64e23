-- The first card's events, and the link's, keep the invariant.
use mathlib.Core.Bool.{Bool, false, not, true}
use mathlib.Core.List.{List, [], ◌++◌, ◌∷◌, append_assoc, append-nil}
use mathlib.Core.Path.{◌∙◌, ◌≡◌, ap, refl, subst, sym}
use Prim.Native.Nat.{◌<◌, ◌≤◌, ℕ}
use borrow.Author.Tests.{not-false}
use native.Mathlib.Nat.{le_refl}
use native.Mathlib.Omega.{arith}
use Rattle.rules.proofs.Choices.{clash, pick_case}
use Rattle.rules.proofs.PairWhole.{Whole}
use Rattle.rules.proofs.Verdicts.{if_linked, unless}
use Rattle.rules.specs.Boundary.{boundary}
use Rattle.rules.specs.Events.{handle, kind, sends, taken}
use Rattle.rules.specs.GuestSound.{proper}
use Rattle.rules.specs.History.{History, after, noted, recorded}
use Rattle.rules.specs.Instruction.{complete}
use Rattle.rules.specs.Lone.{LoneStep}
use Rattle.rules.specs.Messages.{end, int, only, tme, val}
use Rattle.rules.specs.Pair.{acknowledged, awaited, buffers, clock_sent, enters, halted, idle, is_failed, is_following, is_waiting, noticed, on_p, ran_on, received, setup_of}
use Rattle.rules.specs.Program.{Setup, at_time, exec}
use Rattle.rules.specs.declared.Card.{Card}
use Rattle.rules.specs.declared.Event.TheVariants.{Ack, Detect, Fail, Link, PEnd, PInt, PStep, PTime}
use Rattle.rules.specs.declared.Guest.{Guest}
use Rattle.rules.specs.declared.Interrupt.{Interrupt}
use Rattle.rules.specs.declared.Message.{Message}
use Rattle.rules.specs.declared.Phase.{Phase}
use Rattle.rules.specs.declared.Phase.TheVariants.{Failed, Running, Waiting}
use Rattle.rules.specs.declared.RecordEntry.{RecordEntry}
use Rattle.rules.specs.declared.Refusal.TheVariants.{BadProgram, Dead, EpochsUsedUp, MustWait, OutOfTurn, UnknownOperation}
use Rattle.rules.specs.declared.Role.{Role}
use Rattle.rules.specs.declared.Role.TheVariants.{Failover, Following, Promoted}
use Rattle.slots.proofs.Tests.{or_false}
use Rattle.promises.proofs.Follow.{Post, add}
use Rattle.promises.proofs.Invariant.{Core, CoreOf, Inv, Keeps, Own, Stand, ahead, alone, behind, gone, less, living, own-int, own-step, own_turn, post_of, posted}
use Rattle.promises.proofs.Ledger.{Ledger, no_cons}
use Rattle.promises.proofs.Trail.{Trail, trail_end, trail_failed, trail_int, trail_step, trail_tme}
use Rattle.promises.proofs.Wires.{Wires, wires_end, wires_epochs, wires_link, wires_message}
use Rattle.std.specs.Prelude.{None}

-- a message sent behind those on the link
appended : (i : Bool) (b : Card) (inbox link x : List Message) → add x (posted i b (inbox ++ link)) ≡ posted i b (inbox ++ (link ++ x))
unfolding add
appended i b inbox link x = ap (posted i b) (append_assoc inbox link x)

is_running : (f : Phase) → is_failed f ≡ false → is_waiting f ≡ false → f ≡ Running
unfolding is_failed is_waiting
is_running Running p q = refl
is_running (Waiting c) p q = clash refl q
is_running Failed p q = clash refl p

is_waiting_lem : (f : Phase) → is_waiting f ≡ true → f ≡ Waiting (clock_sent f)
unfolding is_waiting clock_sent
is_waiting_lem Running p = clash p refl
is_waiting_lem (Waiting c) p = refl
is_waiting_lem Failed p = clash p refl

module _ (S : Setup) (past : List LoneStep) (h : History) (e : Ledger S h) (w : Whole h.pair) (i : Inv S past h) where
  -- P lives, so B is behind it; P sends x, and is then the card c in the phase f
  sending : is_failed h.pair.phase ≡ false → (c : Card) (f : Phase) (x : List Message) (es : List RecordEntry) (ep : List Guest)
      → (CoreOf S past h → Trail S (add x (post_of h)) c f h.entered_b ep)
      → (CoreOf S past h → h.pair.b.epoch.0 < h.pair.p.epoch.0 → Wires h.pair.b.epoch c.epoch h.pair.inbox (h.pair.link ++ x))
      → h.pair.p.epoch.0 ≤ c.epoch.0 → (CoreOf S past h → Own S past c es)
      → Core S past (idle h.pair) h.pair.b h.pair.role h.pair.inbox h.entered_b es (h.pair.link ++ x) c f ep
  unfolding is_following
  sending q c f x es ep t v n o =
      let k : CoreOf S past h = living S past h e w i q in
      record {
        trail = subst (λ (y : Post). Trail S y c f h.entered_b ep) (appended (idle h.pair) h.pair.b h.pair.inbox h.pair.link x) (t k);
        wires = v k (less S past h e w k.stand q);
        stand = go h.pair.role refl k.stand;
        own = o k;
      }
    where
      go : (r : Role) → h.pair.role ≡ r → Stand r h.pair.b.epoch h.pair.p.epoch → Stand r h.pair.b.epoch c.epoch
      go Following z y = omega arith
      go Failover z y = clash (gone S past h e w (ap is_following z)).0 q
      go Promoted z y = absurd y

  pub keeps_pstep : (v : ℕ) → Keeps S past h (PStep v) (handle S h.pair (PStep v))
  unfolding handle after on_p ran_on kind noted only sends val
  keeps_pstep v =
      unless _ _ Dead _ λ q₁.
      unless _ _ OutOfTurn _ λ q₂.
      unless _ _ BadProgram _ λ q₃.
      let p : Card = h.pair.p in
      behind
      (sending q₁ (ran_on p (exec S p.guest v).guest) h.pair.phase (sends S p v) _ h.entered_p
      (λ k. trail_step S _ p h.pair.phase h.entered_b h.entered_p k.trail v q₂)
      (λ k l.
      pick_case (λ (x : List Message). Wires h.pair.b.epoch p.epoch h.pair.inbox (h.pair.link ++ x)) (at_time S p.guest) (val p.epoch v ∷ []) []
      (λ _. wires_message h.pair.b.epoch p.epoch h.pair.inbox h.pair.link (val p.epoch v) l refl (λ z. omega arith) k.wires)
      (λ _. rw (append-nil h.pair.link) k.wires))
      (le_refl p.epoch.0) (λ k. own-step S past p h.shown v q₂ q₃ k.own))

  pub keeps_pint : (j : Interrupt) → proper j ≡ true → Keeps S past h (PInt j) (handle S h.pair (PInt j))
  unfolding handle after kind recorded noted only on_p buffers int
  keeps_pint j y =
      unless _ _ Dead _ λ q₁.
      unless _ _ UnknownOperation _ λ q₂.
      let p : Card = h.pair.p in
      behind
      (sending q₁ (buffers p j) h.pair.phase (int p.epoch j ∷ []) h.shown h.entered_p
      (λ k. trail_int S _ p h.pair.phase h.entered_b h.entered_p k.trail j)
      (λ k l. wires_message h.pair.b.epoch p.epoch h.pair.inbox h.pair.link (int p.epoch j) l refl (λ z. omega arith) k.wires)
      (le_refl p.epoch.0) (λ k. own-int S past p h.shown j y (not-false (awaited p j.op) q₂) k.own))

  pub keeps_ptime : (v : ℕ) → Keeps S past h (PTime v) (handle S h.pair (PTime v))
  unfolding handle after kind recorded noted only on_p tme
  keeps_ptime v =
      unless _ _ Dead _ λ q₁.
      unless _ _ OutOfTurn _ λ q₂.
      let p : Card = h.pair.p in
      let r = is_running h.pair.phase q₁ (or_false (not (complete S.limit p.guest)) (is_waiting h.pair.phase) q₂).1 in
      behind
      (sending q₁ p (Waiting v) (tme p.epoch v ∷ []) h.shown h.entered_p
      (λ k. trail_tme S _ p h.entered_b h.entered_p v (subst (λ (f : Phase). Trail S (post_of h) p f h.entered_b h.entered_p) r k.trail))
      (λ k l. wires_message h.pair.b.epoch p.epoch h.pair.inbox h.pair.link (tme p.epoch v) l refl (λ z. omega arith) k.wires)
      (le_refl p.epoch.0) (λ k. k.own))

  pub keeps_pend : Keeps S past h PEnd (handle S h.pair PEnd)
  unfolding handle after kind recorded noted only on_p enters setup_of
  keeps_pend =
      unless _ _ Dead _ λ q₁.
      unless _ _ OutOfTurn _ λ q₂.
      unless _ _ EpochsUsedUp _ λ q₃.
      unless _ _ MustWait _ λ q₄.
      let p : Card = h.pair.p in
      let z = not-false (is_waiting h.pair.phase) q₂ in
      let c : ℕ = clock_sent h.pair.phase in
      let done : complete S.limit p.guest ≡ true = subst (λ (T : Setup). complete T.limit p.guest ≡ true) e.setup (w.turns.ready z) in
      behind
      (sending q₁ (enters p (boundary p.buffer c p.guest)) Running (end p.epoch ∷ []) h.shown _
      (λ k. trail_end S _ p h.entered_b h.entered_p c (subst (λ (f : Phase). Trail S (post_of h) p f h.entered_b h.entered_p) (is_waiting_lem h.pair.phase z) k.trail) done (wires_epochs h.pair.b.epoch p.epoch h.pair.inbox h.pair.link k.wires))
      (λ k l. wires_end h.pair.b.epoch p.epoch h.pair.inbox h.pair.link l k.wires)
      (omega arith) (λ k. own_turn S past p h.shown c done k.own))

  pub keeps_ack : Keeps S past h Ack (handle S h.pair Ack)
  unfolding handle after kind recorded noted only acknowledged
  keeps_ack = unless _ _ Dead _ λ q. unless _ _ MustWait _ λ _. behind (living S past h e w i q)

  pub keeps_fail : Keeps S past h Fail (handle S h.pair Fail)
  unfolding handle after kind recorded noted only halted
  keeps_fail =
      unless _ _ Dead _ λ q.
      let k : CoreOf S past h = living S past h e w i q in
      behind (record { trail = trail_failed S _ h.pair.p h.pair.phase h.entered_b h.entered_p k.trail; wires = k.wires; stand = k.stand; own = k.own })

  -- what only P's phase, the flag and the link bear on
  pub keeps_detect : Keeps S past h Detect (handle S h.pair Detect)
  unfolding handle after kind recorded noted only noticed
  keeps_detect = unless _ _ OutOfTurn _ λ _. unless _ _ MustWait _ λ _. go i
    where
      go : Inv S past h → Inv S past (after Detect h (taken (noticed h.pair) None))
      go (behind k) = behind k
      go (ahead a) = ahead (record { role = a.role; stopped = a.stopped; entered = a.entered; lone = a.lone })
      go (alone a) = alone (record { role = a.role; stopped = a.stopped; rest = a.rest; entered = a.entered; own = a.own })

  -- the oldest message arrives
  pub keeps_link_lem : Keeps S past h Link (handle S h.pair Link)
  unfolding handle after kind recorded noted only received is_following
  keeps_link_lem = if_linked _ h.pair λ m ms q _. go m ms q i
    where
      go : (m : Message) (ms : List Message) → h.pair.link ≡ m ∷ ms → Inv S past h → Inv S past (after Link h (taken (received h.pair m ms) None))
      go m ms q (behind k) =
          let b : Card = h.pair.b in
          behind (record {
            trail = subst (λ (l : List Message). Trail S (posted (idle h.pair) b l) h.pair.p h.pair.phase h.entered_b h.entered_p) (ap (λ (l : List Message). h.pair.inbox ++ l) q ∙ sym (append_assoc h.pair.inbox (m ∷ []) ms)) k.trail;
            wires = wires_link b.epoch h.pair.p.epoch h.pair.inbox m ms (subst (Wires b.epoch h.pair.p.epoch h.pair.inbox) q k.wires);
            stand = k.stand;
            own = k.own;
          })
      go m ms q (ahead a) = no_cons (gone S past h e w (ap is_following a.role)).1 q
      go m ms q (alone a) = no_cons (gone S past h e w (ap is_following a.role)).1 q
