-- Demand 3 over the model, with one lone history that only grows.
use mathlib.Core.Bool.{false, true}
use mathlib.Core.List.{List, [], ◌++◌, ◌∷◌, append_assoc, append-nil}
use mathlib.Core.Path.{◌∙◌, ◌≡◌, ap, refl, subst, sym}
use borrow.Author.Tests.{not-false}
use lib.Dec.{lit<}
use native.Mathlib.Omega.{arith}
use Rattle.rules.proofs.Choices.{clash}
use Rattle.rules.proofs.PairWhole.{Whole}
use Rattle.rules.specs.Events.{handle, malformed, turned}
use Rattle.rules.specs.Guest.{fresh}
use Rattle.rules.specs.GuestSound.{proper}
use Rattle.rules.specs.History.{History, feed, fresh_history, run}
use Rattle.rules.specs.Lone.{Lone, LoneStep, fresh_lone, lone_steps}
use Rattle.rules.specs.Messages.{drop_epoch, gather, ints, tmes, vals}
use Rattle.rules.specs.Pair.{fresh_pair, is_failed, is_promoted}
use Rattle.rules.specs.Program.{Setup}
use Rattle.rules.specs.declared.Event.{Event}
use Rattle.rules.specs.declared.Event.TheVariants.{Ack, BEnd, BInt, BStep, Detect, Fail, Link, PEnd, PInt, PStep, PTime}
use Rattle.rules.specs.declared.Guest.{Guest}
use Rattle.rules.specs.declared.Interrupt.{Interrupt}
use Rattle.slots.specs.Slots.{keep}
use Rattle.promises.proofs.First.{keeps_ack, keeps_detect, keeps_fail, keeps_link_lem, keeps_pend, keeps_pint, keeps_pstep, keeps_ptime}
use Rattle.promises.proofs.Follow.{follow, move, passes, turn}
use Rattle.promises.proofs.Invariant.{Inv, Keeps, ahead, alone, behind, not_promoted, post_of}
use Rattle.promises.proofs.Ledger.{Ledger, feed_keeps, ledger_feed, ledger_fresh}
use Rattle.promises.proofs.LoneCard.{Possible, lonely}
use Rattle.promises.proofs.Second.{keeps_bend, keeps_bint, keeps_bstep}
use Rattle.promises.specs.Promises.{Agree, Demand3, OneCard}
use Rattle.std.specs.Prelude.{Some}

-- ---- every event keeps the invariant

keeps_handle : (S : Setup) (past : List LoneStep) (h : History) (e : Ledger S h) (w : Whole h.pair) (i : Inv S past h) (ev : Event) → malformed ev ≡ false → Keeps S past h ev (handle S h.pair ev)
unfolding malformed
keeps_handle S past h e w i (PStep v) m = keeps_pstep S past h e w i v
keeps_handle S past h e w i (PInt j) m = keeps_pint S past h e w i j (not-false (proper j) m)
keeps_handle S past h e w i (PTime v) m = keeps_ptime S past h e w i v
keeps_handle S past h e w i PEnd m = keeps_pend S past h e w i
keeps_handle S past h e w i Link m = keeps_link_lem S past h e w i
keeps_handle S past h e w i Ack m = keeps_ack S past h e w i
keeps_handle S past h e w i Fail m = keeps_fail S past h e w i
keeps_handle S past h e w i Detect m = keeps_detect S past h e w i
keeps_handle S past h e w i (BStep v) m = keeps_bstep S past h e w v i
keeps_handle S past h e w i (BEnd v) m = keeps_bend S past h e w v i
keeps_handle S past h e w i (BInt j) m = keeps_bint S past h e w j (not-false (proper j) m) i

keeps : (S : Setup) (past : List LoneStep) (h : History) (ev : Event) → Ledger S h → Inv S past h → Inv S past (feed S h ev)
keeps S past h ev e i = feed_keeps S (Inv S past) h ev e i λ m w. keeps_handle S past h e w i ev m

fresh_inv : (S : Setup) → Inv S [] (fresh_history S)
unfolding fresh_history fresh_pair fresh follow passes move turned drop_epoch keep vals ints tmes gather fresh_lone lone_steps
fresh_inv S =
    behind (record {
      trail = record { path = turn ∷ []; legal = ((refl, λ q. clash refl q), tt); level = record { awake = refl; epoch = refl; guest = refl; no_vals = refl; same_ints = refl; clocks = refl }; entered = refl };
      wires = record { order = tt; bounded = tt; oldest = tt; newer = tt; ends = λ e a b. absurd (omega arith) };
      stand = lit< tt;
      own = record { lone = ([], refl); told = tt };
    })

-- ---- one history of the lone card

agree_prefix : (eb rest ep : List Guest) → eb ++ rest ≡ ep → Agree ep eb
agree_prefix eb rest ep q = subst (λ (l : List Guest). Agree l eb) q (go eb)
  where
    ends : (k : List Guest) → Agree k []
    ends [] = tt
    ends (g ∷ k) = tt

    go : (l : List Guest) → Agree (l ++ rest) l
    go [] = ends rest
    go (g ∷ l) = (refl, go l)

agree_extended : (eb rest ep : List Guest) → eb ≡ ep ++ rest → Agree ep eb
agree_extended eb rest ep q = subst (Agree ep) (sym q) (go ep)
  where
    go : (l : List Guest) → Agree l (l ++ rest)
    go [] = tt
    go (g ∷ l) = (refl, go l)

module _ (S : Setup) where
  -- the steps that the lone card took after `past`
  newest : (past : List LoneStep) (h : History) → Inv S past h → List LoneStep
  newest past h (behind k) = k.own.lone.0
  newest past h (ahead a) = a.lone.0
  newest past h (alone a) = a.own.lone.0

  -- all that it took is past
  settle : (past : List LoneStep) (c : Lone) (p : Possible S past c) → Possible S (past ++ p.0) c
  settle past c p = ([], ap (lone_steps S (Some fresh_lone)) (append-nil (past ++ p.0)) ∙ p.1)

  rebase : (past : List LoneStep) (h : History) (i : Inv S past h) → Inv S (past ++ newest past h i) h
  unfolding newest
  rebase past h (behind k) = behind (record { trail = k.trail; wires = k.wires; stand = k.stand; own = record { lone = settle past _ k.own.lone; told = k.own.told } })
  rebase past h (ahead a) = ahead (record { role = a.role; stopped = a.stopped; entered = a.entered; lone = settle past _ a.lone })
  rebase past h (alone a) = alone (record { role = a.role; stopped = a.stopped; rest = a.rest; entered = a.entered; own = record { lone = settle past _ a.own.lone; told = a.own.told } })

  -- what is known of a history
  pub record Stage (h : History) : Type 0 where
    pub past : List LoneStep
    pub inv : Inv S past h
    pub ledger : Ledger S h

  steps : (h : History) → Stage h → List LoneStep
  steps h t = t.past ++ newest t.past h t.inv

  pub next_stage : (h : History) → Stage h → (ev : Event) → Stage (feed S h ev)
  unfolding steps
  next_stage h t ev = record { past = steps h t; inv = keeps S (steps h t) h ev t.ledger (rebase t.past h t.inv); ledger = ledger_feed S h ev t.ledger }

  walk : (h : History) → Stage h → (evs : List Event) → Stage (run S h evs)
  unfolding run
  walk h t [] = t
  walk h t (ev ∷ evs) = walk (feed S h ev) (next_stage h t ev) evs

  walk-grows : (h : History) (t : Stage h) (evs : List Event) → (more : List LoneStep) × (steps (run S h evs) (walk h t evs) ≡ steps h t ++ more)
  unfolding run walk steps next_stage
  walk-grows h t [] = ([], sym (append-nil (steps h t)))
  walk-grows h t (ev ∷ evs) =
      let r = walk-grows (feed S h ev) (next_stage h t ev) evs in
      let n : List LoneStep = newest (steps h t) (feed S h ev) (next_stage h t ev).inv in
      (n ++ r.0, r.1 ∙ append_assoc (steps h t) n r.0)

  walk-append : (h : History) (t : Stage h) (evs more : List Event) → steps (run S h (evs ++ more)) (walk h t (evs ++ more)) ≡ steps (run S (run S h evs) more) (walk (run S h evs) (walk h t evs) more)
  unfolding run walk
  walk-append h t [] more = refl
  walk-append h t (ev ∷ evs) more = walk-append (feed S h ev) (next_stage h t ev) evs more

  -- demand 3 of what is known, where the lone card stands at the guest g with the buffer is
  demanded : (h : History) (ss : List LoneStep) (g : Guest) (is : List Interrupt) → Ledger S h → lone_steps S (Some fresh_lone) ss ≡ Some (lonely g is h.shown) → Agree h.entered_p h.entered_b
      → (is_failed h.pair.phase ≡ false → (g ≡ h.pair.p.guest) × (is ≡ h.pair.p.buffer)) → (is_promoted h.pair.role ≡ true → (g ≡ h.pair.b.guest) × (is ≡ h.pair.b.buffer)) → Demand3 S (λ x. x) (λ x. x) h ss
  demanded h ss g is e p a f s = record { epochs_p = e.first; epochs_b = e.second; agree = a; lone = lonely g is h.shown; possible = p; same_record = refl; first = f; second = s }

  stage_demand : (h : History) (t : Stage h) → Demand3 S (λ x. x) (λ x. x) h (steps h t)
  unfolding steps newest is_promoted
  stage_demand h t = go t.inv
    where
      go : (i : Inv S t.past h) → Demand3 S (λ x. x) (λ x. x) h (t.past ++ newest t.past h i)
      go (behind k) =
          demanded h _ h.pair.p.guest h.pair.p.buffer t.ledger k.own.lone.1 (agree_prefix h.entered_b (passes S k.trail.path (post_of h)) h.entered_p k.trail.entered)
          (λ _. (refl, refl)) (λ q. not_promoted h.pair.role h.pair.b.epoch h.pair.p.epoch k.stand q)
      go (ahead a) =
          demanded h _ h.pair.b.guest (ints h.pair.b.epoch h.pair.inbox) t.ledger a.lone.1 (agree_prefix h.entered_b [] h.entered_p (append-nil h.entered_b ∙ a.entered))
          (λ q. clash a.stopped q) (λ q. clash q (ap is_promoted a.role))
      go (alone a) =
          demanded h _ h.pair.b.guest h.pair.b.buffer t.ledger a.own.lone.1 (agree_extended h.entered_b a.rest h.entered_p a.entered)
          (λ q. clash a.stopped q) (λ _. (refl, refl))

  pub first_stage : Stage (fresh_history S)
  first_stage = record { past = []; inv = fresh_inv S; ledger = ledger_fresh S }

  pub stage : (evs : List Event) → Stage (run S (fresh_history S) evs)
  stage evs = walk (fresh_history S) first_stage evs

-- demand 3, for every program, N and L
pub one_card_lem : (S : Setup) → OneCard S (λ g. g) (λ is. is) (run S (fresh_history S))
unfolding stage
one_card_lem S =
    record {
      history = λ evs. steps S (run S (fresh_history S) evs) (stage S evs);
      demand = λ evs. stage_demand S (run S (fresh_history S) evs) (stage S evs);
      grows = λ evs more.
          let r = walk-grows S (run S (fresh_history S) evs) (stage S evs) more in
          (r.0, walk-append S (fresh_history S) (first_stage S) evs more ∙ r.1);
    }
