-- The second card's events keep the invariant.
use mathlib.Core.Bool.{Bool, ◌&&◌, false, not, true}
use mathlib.Core.List.{List, [], ◌++◌, ◌∷◌, append_assoc, append-nil}
use mathlib.Core.Path.{◌∙◌, ◌≡◌, ap, ap₂, refl, subst, sym}
use Prim.Native.Nat.{◌<◌, ◌≤◌, suc, ℕ}
use borrow.Author.Tests.{ne_eqb}
use native.Mathlib.Nat.{le_refl}
use native.Mathlib.Omega.{arith}
use Rattle.rules.proofs.Choices.{and_not_other, clash, nor_other, pick_case}
use Rattle.rules.proofs.Lists.{All, all_left}
use Rattle.rules.proofs.Messages.{NonEmpty, Without, drop_epoch-left, epoch_of, gathered_left, ints-drop_val}
use Rattle.rules.proofs.PairKept.{after_b}
use Rattle.rules.proofs.PairWhole.{Whole}
use Rattle.rules.proofs.Verdicts.{unless}
use Rattle.rules.specs.Boundary.{boundary, failover}
use Rattle.rules.specs.Events.{ended, handle, kind, taken, turned, turned_last, unread}
use Rattle.rules.specs.GuestSound.{proper}
use Rattle.rules.specs.History.{History, after, noted, recorded}
use Rattle.rules.specs.Instruction.{complete}
use Rattle.rules.specs.Lone.{LoneStep}
use Rattle.rules.specs.Messages.{drop_epoch, drop_val, first, has_end, ints, only, tmes, vals}
use Rattle.rules.specs.Pair.{awaited, buffers, enters, idle, is_following, is_promoted, next_epoch, on_b, ran_on}
use Rattle.rules.specs.Program.{Setup, at_time, bad, exec}
use Rattle.rules.specs.declared.Card.{Card}
use Rattle.rules.specs.declared.EpochNo.{EpochNo}
use Rattle.rules.specs.declared.Event.TheVariants.{BEnd, BInt, BStep}
use Rattle.rules.specs.declared.Guest.{Guest}
use Rattle.rules.specs.declared.Interrupt.{Interrupt}
use Rattle.rules.specs.declared.Message.{Message}
use Rattle.rules.specs.declared.Pair.{Pair}
use Rattle.rules.specs.declared.Ran.{Ran}
use Rattle.rules.specs.declared.Refusal.TheVariants.{BadProgram, EpochsUsedUp, MustWait, OutOfTurn, UnknownOperation}
use Rattle.rules.specs.declared.Role.{Role}
use Rattle.rules.specs.declared.Role.TheVariants.{Failover, Following, Promoted}
use Rattle.slots.proofs.Tests.{or_false}
use Rattle.slots.specs.Slots.{pick}
use Rattle.promises.proofs.Follow.{Able, Post, act, clock_some, first_some, follow_epoch, move, sent, turn, unread-left}
use Rattle.promises.proofs.Invariant.{Ahead, Alone, CoreOf, Inv, Keeps, Stand, ahead, alone, behind, gone, own-int, own-step, own_turn, post_of, promoted}
use Rattle.promises.proofs.Ledger.{Ledger}
use Rattle.promises.proofs.LoneCard.{Possible, lonely, possible-hidden}
use Rattle.promises.proofs.Order.{ends_below, order-after, past_of}
use Rattle.promises.proofs.Outstanding.{possible-failover, reached-failover}
use Rattle.promises.proofs.Trail.{Level, Next, Trail, acts, next_move, there, turns}
use Rattle.promises.proofs.Wires.{newer_without, wires_turn, wires_unread}
use Rattle.rules.specs.declared.RecordEntry.{RecordEntry}
use Rattle.std.specs.Prelude.{None, Option}

module _ (S : Setup) (past : List LoneStep) (h : History) (e : Ledger S h) (w : Whole h.pair) where
  -- level with the first card: this is the failover epoch, and all has arrived
  level_ahead : CoreOf S past h → Level (post_of h) h.pair.p h.pair.phase → h.entered_b ≡ h.entered_p → Ahead S past h
  unfolding is_following
  level_ahead k l q =
      let r : h.pair.role ≡ Failover = go h.pair.role (subst (Stand h.pair.role h.pair.b.epoch) (sym l.epoch) k.stand) in
      let a : h.pair.link ≡ [] = (gone S past h e w (ap is_following r)).1 in
      record {
        role = r;
        stopped = (gone S past h e w (ap is_following r)).0;
        entered = q;
        lone =
            subst (λ (g : Guest). Possible S past (lonely g (ints h.pair.b.epoch h.pair.inbox) h.shown)) (sym l.guest)
            (subst (λ (x : List Interrupt). Possible S past (lonely h.pair.p.guest x h.shown))
            (sym l.same_ints ∙ ap (λ (x : List Message). ints h.pair.p.epoch (h.pair.inbox ++ x)) a ∙ ap (ints h.pair.p.epoch) (append-nil h.pair.inbox) ∙ ap (λ (n : EpochNo). ints n h.pair.inbox) (sym l.epoch)) k.own.lone);
      }
    where
      go : (o : Role) → Stand o h.pair.b.epoch h.pair.b.epoch → o ≡ Failover
      go Following t = absurd (omega arith)
      go Failover t = refl
      go Promoted t = absurd t

  -- ---- BSTEP

  stepped_to : ℕ → Option RecordEntry → History
  stepped_to v o = after (BStep v) h (taken (after_b S h.pair (first (vals h.pair.b.epoch h.pair.inbox) v)) o)

  -- the link has no message of B's epoch, so that the clock and what is left are those of the inbox
  behind-step : (v : ℕ) → CoreOf S past h → Able S act (post_of h) → Trail S (move S act (post_of h)) h.pair.p h.pair.phase h.entered_b h.entered_p → CoreOf S past (stepped_to v None)
  unfolding stepped_to after_b after kind recorded noted only on_b ran_on move
  behind-step v k l t =
      let b : Card = h.pair.b in
      let inbox : List Message = h.pair.inbox in
      let same = (gathered_left b.epoch inbox h.pair.link (newer_without b.epoch h.pair.link k.wires.newer)).0 in
      let here : (at_time S b.guest ≡ true → NonEmpty (vals b.epoch inbox)) = λ q. subst NonEmpty same (l.2 q) in
      record {
        trail =
            subst (λ (u : Post). Trail S u h.pair.p h.pair.phase h.entered_b h.entered_p)
            (ap₂ (λ (r : Ran) (ms : List Message). record { idle = idle h.pair; epoch = b.epoch; guest = r.guest; msgs = ms })
            (ap (λ (x : List ℕ). exec S b.guest (first x 0)) (same ∙ sym (append-nil (vals b.epoch inbox))) ∙ clock_some S b.guest (vals b.epoch inbox) [] 0 v here)
            (unread-left S b.epoch b.guest inbox h.pair.link here)) t;
        wires = wires_unread S b.epoch h.pair.p.epoch b.guest inbox h.pair.link k.wires;
        stand = k.stand;
        own = k.own;
      }

  ahead_step : (v : ℕ) → complete S.limit h.pair.b.guest ≡ false → bad S h.pair.b.guest ≡ false → Ahead S past h → Ahead S past (stepped_to v None)
  unfolding stepped_to after_b after kind recorded noted only on_b ran_on unread
  ahead_step v n d a =
      let b : Card = h.pair.b in
      let inbox : List Message = h.pair.inbox in
      record {
        role = a.role;
        stopped = a.stopped;
        entered = a.entered;
        lone =
            subst (λ (l : List Interrupt). Possible S past (lonely (exec S b.guest (first (vals b.epoch inbox) v)).guest l h.shown))
            (pick_case (λ (l : List Message). ints b.epoch inbox ≡ ints b.epoch l) (at_time S b.guest) (drop_val b.epoch inbox) inbox (λ _. sym (ints-drop_val b.epoch b.epoch inbox)) (λ _. refl))
            (possible-hidden S past b.guest (ints b.epoch inbox) h.shown a.lone (first (vals b.epoch inbox) v) n d);
      }

  alone_step : (v : ℕ) → complete S.limit h.pair.b.guest ≡ false → bad S h.pair.b.guest ≡ false → Alone S past h → Alone S past (stepped_to v (exec S h.pair.b.guest (first (vals h.pair.b.epoch h.pair.inbox) v)).shown)
  unfolding stepped_to after_b after kind noted only on_b ran_on
  alone_step v n d a = record { role = a.role; stopped = a.stopped; rest = a.rest; entered = a.entered; own = own-step S past h.pair.b h.shown (first (vals h.pair.b.epoch h.pair.inbox) v) n d a.own }

  pub keeps_bstep : (v : ℕ) → Inv S past h → Keeps S past h (BStep v) (handle S h.pair (BStep v))
  unfolding handle stepped_to after_b is_promoted
  keeps_bstep v i =
      unless _ _ OutOfTurn _ λ q₁.
      unless _ _ BadProgram _ λ q₂.
      let a = or_false (idle h.pair) (complete S.limit h.pair.b.guest) q₁ in
      pick_case (λ (o : Option RecordEntry). Inv S past (stepped_to v o)) (is_promoted h.pair.role) (exec S h.pair.b.guest (first (vals h.pair.b.epoch h.pair.inbox) v)).shown None
      (λ p. alone (alone_step v a.1 q₂ (promoted S past h i p)))
      (λ p. go i p a.0 a.1 q₂)
    where
      go : Inv S past h → is_promoted h.pair.role ≡ false → idle h.pair ≡ false → complete S.limit h.pair.b.guest ≡ false → bad S h.pair.b.guest ≡ false → Inv S past (stepped_to v None)
      go (behind k) p z n d = by_next (next_move S (post_of h) h.pair.p h.pair.phase h.entered_b h.entered_p k.trail)
        where
          by_next : Next S (post_of h) h.pair.p h.pair.phase h.entered_b h.entered_p → Inv S past (stepped_to v None)
          by_next (there l q) = ahead (ahead_step v n d (level_ahead k l q))
          by_next (acts l t) = behind (behind-step v k l t)
          by_next (turns l t) = clash (rw (z, n)) l.0
      go (ahead a) p z n d = ahead (ahead_step v n d a)
      go (alone a) p z n d = clash (ap is_promoted a.role) p

  -- ---- BEND

  -- B's guest in its next epoch, while it follows
  turn_g : ℕ → Guest
  turn_g v = turned (idle h.pair) h.pair.b.epoch h.pair.b.guest h.pair.inbox v

  turned_to : ℕ → Role → History
  turned_to v o = after (BEnd v) h (taken (on_b h.pair (enters h.pair.b (turn_g v)) o (drop_epoch h.pair.b.epoch h.pair.inbox)) None)

  turned_same : (v : ℕ) → Without h.pair.b.epoch h.pair.link → (idle h.pair ≡ false → NonEmpty (tmes h.pair.b.epoch (h.pair.inbox ++ h.pair.link)))
      → turned (idle h.pair) h.pair.b.epoch h.pair.b.guest (h.pair.inbox ++ h.pair.link) 0 ≡ turn_g v
  unfolding turned turn_g
  turned_same v off sent =
      let b : Card = h.pair.b in
      let l = gathered_left b.epoch h.pair.inbox h.pair.link off in
      go (idle h.pair) l.1 l.2 (λ q. subst NonEmpty l.2 (sent q))
    where
      go : (i : Bool) → ints h.pair.b.epoch (h.pair.inbox ++ h.pair.link) ≡ ints h.pair.b.epoch h.pair.inbox → tmes h.pair.b.epoch (h.pair.inbox ++ h.pair.link) ≡ tmes h.pair.b.epoch h.pair.inbox → (i ≡ false → NonEmpty (tmes h.pair.b.epoch h.pair.inbox))
          → pick i h.pair.b.guest (boundary (ints h.pair.b.epoch (h.pair.inbox ++ h.pair.link)) (first (tmes h.pair.b.epoch (h.pair.inbox ++ h.pair.link)) 0) h.pair.b.guest)
          ≡ pick i h.pair.b.guest (boundary (ints h.pair.b.epoch h.pair.inbox) (first (tmes h.pair.b.epoch h.pair.inbox) v) h.pair.b.guest)
      go true x y z = refl
      go false x y z =
          ap₂ (λ (is : List Interrupt) (c : ℕ). boundary is c h.pair.b.guest) x
          (ap (λ (l : List ℕ). first l 0) (y ∙ sym (append-nil (tmes h.pair.b.epoch h.pair.inbox))) ∙ first_some (tmes h.pair.b.epoch h.pair.inbox) [] 0 v (z refl))

  -- B turns its epoch as the trail says, with the role o
  core_turn : (v : ℕ) (o : Role) → CoreOf S past h → Able S turn (post_of h) → Trail S (move S turn (post_of h)) h.pair.p h.pair.phase (h.entered_b ++ ((move S turn (post_of h)).guest ∷ [])) h.entered_p
      → All (λ m. suc h.pair.b.epoch.0 < epoch_of m) h.pair.link → Stand o (next_epoch h.pair.b.epoch) h.pair.p.epoch → CoreOf S past (turned_to v o)
  unfolding turned_to after kind recorded noted only on_b enters move
  core_turn v o k l t n st =
      let b : Card = h.pair.b in
      let off : Without b.epoch h.pair.link = newer_without b.epoch h.pair.link k.wires.newer in
      let same = turned_same v off l.1 in
      record {
        trail =
            subst (λ (i : Bool). Trail S (record { idle = i; epoch = next_epoch b.epoch; guest = turn_g v; msgs = drop_epoch b.epoch h.pair.inbox ++ h.pair.link }) h.pair.p h.pair.phase (h.entered_b ++ (turn_g v ∷ [])) h.entered_p) (sym (ne_eqb (suc b.epoch.0) 0 (λ q. omega arith)))
            (subst (λ (g : Guest). Trail S (record { idle = false; epoch = next_epoch b.epoch; guest = g; msgs = drop_epoch b.epoch h.pair.inbox ++ h.pair.link }) h.pair.p h.pair.phase (h.entered_b ++ (g ∷ [])) h.entered_p) same
            (subst (λ (x : List Message). Trail S (record { idle = false; epoch = next_epoch b.epoch; guest = turned (idle h.pair) b.epoch b.guest (h.pair.inbox ++ h.pair.link) 0; msgs = x }) h.pair.p h.pair.phase (h.entered_b ++ (turned (idle h.pair) b.epoch b.guest (h.pair.inbox ++ h.pair.link) 0 ∷ [])) h.entered_p)
            (drop_epoch-left b.epoch h.pair.inbox h.pair.link off) t));
        wires = wires_turn b.epoch h.pair.p.epoch h.pair.inbox h.pair.link n k.wires;
        stand = st;
        own = k.own;
      }

  -- following: [end, e_b+1] is here (P5), or the stop is detected (P7)
  follow_turn : (v : ℕ) → CoreOf S past h → h.pair.role ≡ Following → Able S turn (post_of h) → Trail S (move S turn (post_of h)) h.pair.p h.pair.phase (h.entered_b ++ ((move S turn (post_of h)).guest ∷ [])) h.entered_p
      → not (has_end (next_epoch h.pair.b.epoch) h.pair.inbox) && not h.pair.detected ≡ false
      → CoreOf S past (turned_to v (pick (has_end (next_epoch h.pair.b.epoch) h.pair.inbox) Following Failover))
  follow_turn v k r l t q =
      let en : EpochNo = next_epoch h.pair.b.epoch in
      let below : h.pair.b.epoch.0 < h.pair.p.epoch.0 = subst (λ (o : Role). Stand o h.pair.b.epoch h.pair.p.epoch) r k.stand in
      pick_case (λ (o : Role). CoreOf S past (turned_to v o)) (has_end en h.pair.inbox) Following Failover
      (λ y.
      core_turn v Following k l t (order-after en h.pair.inbox h.pair.link k.wires.order y)
      (ends_below h.pair.p.epoch.0 en h.pair.inbox (all_left (λ (m : Message). past_of m ≤ h.pair.p.epoch.0) h.pair.inbox h.pair.link k.wires.bounded) y))
      (λ n.
      let a : h.pair.link ≡ [] = e.arrived (nor_other (has_end en h.pair.inbox) h.pair.detected q n) in
      core_turn v Failover k l t (subst (All (λ (m : Message). suc h.pair.b.epoch.0 < epoch_of m)) (sym a) tt)
      (last below (λ x. clash (k.wires.ends en (le_refl (suc h.pair.b.epoch.0)) x) (ap (λ (y : List Message). has_end en (h.pair.inbox ++ y)) a ∙ ap (has_end en) (append-nil h.pair.inbox) ∙ n))))
    where
      last : {x y : ℕ} → x < y → (suc x < y → ⊥) → suc x ≡ y
      last l k = omega arith

  -- the failover boundary
  ahead_turn : (v : ℕ) → complete S.limit h.pair.b.guest ≡ true → Ahead S past h → Alone S past (after (BEnd v) h (ended h.pair v Failover))
  unfolding ended after kind recorded noted only on_b enters turned_last
  ahead_turn v n a =
      let g : Guest = h.pair.b.guest in
      let is : List Interrupt = ints h.pair.b.epoch h.pair.inbox in
      let c : ℕ = first (tmes h.pair.b.epoch h.pair.inbox) v in
      record {
        role = refl;
        stopped = a.stopped;
        rest = failover is c g ∷ [];
        entered = ap (λ (l : List Guest). l ++ (failover is c g ∷ [])) a.entered;
        own = record { lone = possible-failover S past g h.shown is c w.second.ascends n a.lone; told = reached-failover is c g h.shown };
      }

  alone_turn : (v : ℕ) → complete S.limit h.pair.b.guest ≡ true → Alone S past h → Alone S past (after (BEnd v) h (ended h.pair v Promoted))
  unfolding ended after kind recorded noted only on_b enters
  alone_turn v n a =
      let g : Guest = boundary h.pair.b.buffer v h.pair.b.guest in
      record {
        role = refl;
        stopped = a.stopped;
        rest = a.rest ++ (g ∷ []);
        entered = ap (λ (l : List Guest). l ++ (g ∷ [])) a.entered ∙ append_assoc h.entered_p a.rest (g ∷ []);
        own = own_turn S past h.pair.b h.shown v n a.own;
      }

  pub keeps_bend : (v : ℕ) → Inv S past h → Keeps S past h (BEnd v) (handle S h.pair (BEnd v))
  unfolding handle ended turned_to turn_g is_following is_promoted move
  keeps_bend v i =
      unless _ _ OutOfTurn _ λ q.
      unless _ _ EpochsUsedUp _ λ _.
      by_role h.pair.role refl q i
    where
      -- B has ended an epoch of its own
      done : (o : Role) → h.pair.role ≡ o → is_following o ≡ false → not (idle h.pair) && not (complete S.limit h.pair.b.guest) ≡ false → complete S.limit h.pair.b.guest ≡ true
      done o r f q = nor_other (idle h.pair) (complete S.limit h.pair.b.guest) q (gone S past h e w (ap is_following r ∙ f)).2

      by_role : (o : Role) → h.pair.role ≡ o → not (idle h.pair) && not (complete S.limit h.pair.b.guest) ≡ false → Inv S past h → Keeps S past h (BEnd v) (ended h.pair v o)
      by_role Following r q (behind k) = unless _ _ MustWait _ λ n. go n (next_move S (post_of h) h.pair.p h.pair.phase h.entered_b h.entered_p k.trail)
        where
          go : not (has_end (next_epoch h.pair.b.epoch) h.pair.inbox) && not h.pair.detected ≡ false → Next S (post_of h) h.pair.p h.pair.phase h.entered_b h.entered_p
              → Inv S past (turned_to v (pick (has_end (next_epoch h.pair.b.epoch) h.pair.inbox) Following Failover))
          go n (there l x) = absurd (let z : ◌≡◌ {A = ℕ} 0 1 = cc (level_ahead k l x).role in omega arith)
          go n (acts l t) = clash (nor_other (idle h.pair) (complete S.limit h.pair.b.guest) q l.0) l.1
          go n (turns l t) = behind (follow_turn v k r l t n)
      by_role Following r q (ahead a) = absurd (let z : ◌≡◌ {A = ℕ} 0 1 = cc a.role in omega arith)
      by_role Following r q (alone a) = absurd (let z : ◌≡◌ {A = ℕ} 0 1 = cc a.role in omega arith)
      by_role Failover r q (behind k) = go (next_move S (post_of h) h.pair.p h.pair.phase h.entered_b h.entered_p k.trail)
        where
          go : Next S (post_of h) h.pair.p h.pair.phase h.entered_b h.entered_p → Inv S past (after (BEnd v) h (ended h.pair v Failover))
          go (there l x) = alone (ahead_turn v (done Failover r refl q) (level_ahead k l x))
          go (acts l t) = clash (done Failover r refl q) l.1
          go (turns l t) =
              let same : h.pair.b.epoch.0 ≡ h.pair.p.epoch.0 = subst (λ (o : Role). Stand o h.pair.b.epoch h.pair.p.epoch) r k.stand in
              let more : suc h.pair.b.epoch.0 ≤ h.pair.p.epoch.0 = subst (λ (n : EpochNo). suc h.pair.b.epoch.0 ≤ n.0) t.level.epoch (follow_epoch S t.path (move S turn (post_of h))) in
              absurd (omega arith)
      by_role Failover r q (ahead a) = alone (ahead_turn v (done Failover r refl q) a)
      by_role Failover r q (alone a) = absurd (let z : ◌≡◌ {A = ℕ} 0 1 = cc a.role in omega arith)
      by_role Promoted r q i = alone (alone_turn v (done Promoted r refl q) (promoted S past h i (ap is_promoted r)))

  -- ---- BINT

  pub keeps_bint : (j : Interrupt) → proper j ≡ true → Inv S past h → Keeps S past h (BInt j) (handle S h.pair (BInt j))
  unfolding handle after kind recorded noted only on_b buffers
  keeps_bint j y i =
      unless _ _ UnknownOperation _ λ q.
      pick_case (λ (t : Pair). Inv S past (after (BInt j) h (taken t None))) (is_promoted h.pair.role) (on_b h.pair (buffers h.pair.b j) h.pair.role h.pair.inbox) h.pair
      (λ p.
      let a : Alone S past h = promoted S past h i p in
      alone (record { role = a.role; stopped = a.stopped; rest = a.rest; entered = a.entered; own = own-int S past h.pair.b h.shown j y (and_not_other (is_promoted h.pair.role) (awaited h.pair.b j.op) q p) a.own }))
      (λ _. i)
