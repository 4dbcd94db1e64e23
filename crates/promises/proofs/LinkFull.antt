-- LINK is refused with 6 only if, after at most L BSTEPs, a BEND will be taken.
use mathlib.Core.Bool.{Bool, ◌&&◌, ◌||◌, false, not, true}
use mathlib.Core.List.{List, [], ◌++◌, ◌∷◌}
use mathlib.Core.Path.{◌∙◌, ◌≡◌, ap, refl, subst, sym}
use Prim.Native.Nat.{◌*◌, ◌+◌, ◌<◌, ◌≤◌, suc, suc-le-suc, zero-le, ℕ}
use borrow.Author.Tests.{eq-eqb, eqb-false, eqb-true, leb-false, ne_eqb}
use lib.Dec.{eqb, leb}
use lib.ListN.{length, take}
use native.Mathlib.Nat.{le_refl}
use native.Mathlib.Omega.{arith}
use Rattle.rules.proofs.Answers.{taken-zero}
use Rattle.rules.proofs.Choices.{by_cases, clash, or_other, or_true}
use Rattle.rules.proofs.Decode.{good_setup}
use Rattle.rules.proofs.Effect.{effect}
use Rattle.rules.proofs.Lists.{All, all_left, all_map, count-append}
use Rattle.rules.proofs.Messages.{epoch_of}
use Rattle.rules.proofs.PairKept.{after_b, whole-bstep}
use Rattle.rules.proofs.PairSlots.{apply-laid, whole-fits}
use Rattle.rules.proofs.PairWhole.{Whole, whole-sound}
use Rattle.rules.specs.Bytes.{read_event, stepped}
use Rattle.rules.specs.Events.{Verdict, ended, handle, in_front, malformed, number, refuse, step, taken}
use Rattle.rules.specs.History.{History}
use Rattle.rules.specs.Instruction.{complete, next}
use Rattle.rules.specs.Lone.{LoneStep}
use Rattle.rules.specs.Messages.{has_end, of_epoch}
use Rattle.rules.specs.Pair.{idle, is_following, next_epoch, on_b, ran_on, setup_of}
use Rattle.rules.specs.PairSlots.{answer_number, laid, outcome, sound_pair, stored}
use Rattle.rules.specs.Program.{Setup, exec, good, instr, under}
use Rattle.rules.specs.Sound.{sound}
use Rattle.rules.specs.declared.Event.{Event}
use Rattle.rules.specs.declared.Event.TheVariants.{BEnd, BStep}
use Rattle.rules.specs.declared.Message.{Message}
use Rattle.rules.specs.declared.Outcome.{Outcome}
use Rattle.rules.specs.declared.Pair.{Pair}
use Rattle.rules.specs.declared.Refusal.{Refusal}
use Rattle.rules.specs.declared.Refusal.TheVariants.{BadProgram, EpochsUsedUp, Malformed, MustWait, OutOfTurn, Unsound}
use Rattle.rules.specs.declared.Role.{Role}
use Rattle.rules.specs.declared.Role.TheVariants.{Failover, Following, Promoted}
use Rattle.slots.proofs.Tests.{or_false}
use Rattle.promises.proofs.Bytes.{stepped_well}
use Rattle.promises.proofs.Flow.{Flow, count_58, count-two, flow_reached}
use Rattle.promises.proofs.Invariant.{CoreOf, Inv, Stand, ahead, alone, behind, gone}
use Rattle.promises.proofs.OneCard.{Stage, stage}
use Rattle.promises.proofs.Order.{has_end-append, has_end-unread, order_before}
use Rattle.promises.proofs.Refusals.{end_may, refusals}
use Rattle.promises.proofs.Runs.{events_in, zero-unsound}
use Rattle.promises.proofs.Soundness.{reached-laid, reached-pair, reached-seen, reached-whole, zero-after}
use Rattle.promises.proofs.Wires.{wires_epochs}
use Rattle.promises.specs.Promises.{AllBSteps, IsBEnd, LinkFull, Takes, pair_after}
use Rattle.promises.specs.Refusals.{Full, MayEnd, link_no_room}
use Rattle.rules.specs.declared.RecordEntry.{RecordEntry}
use Rattle.std.specs.Prelude.{Some, None, Option}

-- ---- an event that is taken, from its bytes

goes_on : (b : Bool) (why : Refusal) (v : Verdict) → b ≡ false → refuse b why v ≡ v
unfolding refuse
goes_on b why v q = rw (q, refuse)

-- a well formed event on a sound pair under a program of 4N bytes is handled
stepped-handled : (code : List ℕ) (s : Pair) (bytes : List ℕ) (ev : Event) → Whole s → length code ≡ 4 * s.count → read_event bytes ≡ Some ev → malformed ev ≡ false → stepped code (laid s) bytes ≡ outcome (laid s) (stored (handle (setup_of code s) s ev))
unfolding step in_front
stepped-handled code s bytes ev w l r m =
    stepped_well code (laid s) bytes ev r
    ∙ ap (outcome (laid s)) (apply-laid code s ev (whole-fits s w))
    ∙ ap (λ (v : Verdict). outcome (laid s) (stored v))
    (goes_on (malformed ev) Malformed _ m ∙ goes_on (not (sound s)) Unsound _ (ap not (whole-sound s w)) ∙ goes_on (not (eqb (length code) (4 * s.count))) BadProgram _ (ap not (eq-eqb (length code) (4 * s.count) l)))

-- and is taken
stepped-taken : (code : List ℕ) (s : Pair) (bytes : List ℕ) (ev : Event) (t : Pair) (o : Option RecordEntry) → Whole s → length code ≡ 4 * s.count → read_event bytes ≡ Some ev → malformed ev ≡ false → handle (setup_of code s) s ev ≡ taken t o
    → (answer_number (stepped code (laid s) bytes).answer ≡ 0) × ((stepped code (laid s) bytes).pair ≡ laid t)
unfolding outcome stored
stepped-taken code s bytes ev t o w l r m q =
    let e = stepped-handled code s bytes ev w l r m ∙ ap (λ (v : Verdict). outcome (laid s) (stored v)) q in
    (taken-zero (ap (λ (x : Outcome). x.answer) e), ap (λ (x : Outcome). x.pair) e)

module _ (code : List ℕ) (l : ℕ) (g : good (under code l) ≡ true) where
  -- B follows, and the end of its next epoch is in the inbox
  record Nearing (s : Pair) : Type 0 where
    role : s.role ≡ Following
    here : has_end (next_epoch s.b.epoch) s.inbox ≡ true
    more : s.b.epoch.0 ≡ 65535 → ⊥
    setup : setup_of code s ≡ under code l
    whole : Whole s

  four : (s : Pair) → Nearing s → length code ≡ 4 * s.count
  unfolding setup_of under
  four s n = (good_setup (under code l) g).bytes ∙ ap (λ (T : Setup). 4 * T.count) (sym n.setup)

  -- ---- a BEND is taken where B may end its epoch

  bend-taken : (s : Pair) (v : ℕ) → Nearing s → MayEnd s → (t : Pair) × (handle (setup_of code s) s (BEnd v) ≡ taken t None)
  unfolding handle ended setup_of
  bend-taken s v n m = (
    _,
    goes_on _ OutOfTurn _ (end_may s m) ∙ goes_on _ EpochsUsedUp _ (ne_eqb s.b.epoch.0 65535 n.more) ∙ ap (ended s v) n.role
        ∙ goes_on _ MustWait _ (ap (λ (b : Bool). not b && not s.detected) n.here),
  )

  -- ---- a BSTEP is taken where B may run, and brings it nearer

  bstep-taken : (s : Pair) (v : ℕ) → Nearing s → idle s || complete s.limit s.b.guest ≡ false → (c : ℕ) × (o : Option RecordEntry) × (handle (setup_of code s) s (BStep v) ≡ taken (after_b (setup_of code s) s c) o)
  unfolding handle after_b setup_of
  bstep-taken s v n q =
      (_, _, goes_on _ OutOfTurn _ q ∙ goes_on _ BadProgram _ (rw n.setup ((good_setup (under code l) g).runs s.b.guest (subst (λ (T : Setup). s.b.guest.pc < T.count) n.setup n.whole.second.inside))))

  bstep_nearing : (s : Pair) (c : ℕ) → Nearing s → idle s || complete s.limit s.b.guest ≡ false → Nearing (after_b (setup_of code s) s c)
  unfolding after_b on_b ran_on setup_of
  bstep_nearing s c n q =
      record { role = n.role; here = has_end-unread (setup_of code s) (next_epoch s.b.epoch) s.b.epoch s.b.guest s.inbox ∙ n.here; more = n.more; setup = n.setup; whole = whole-bstep code s n.whole c q }

  -- one more instruction is done
  bstep_done_lem : (s : Pair) (c : ℕ) → (after_b (setup_of code s) s c).b.guest.done ≡ suc s.b.guest.done
  unfolding after_b on_b ran_on exec
  bstep_done_lem s c = (effect (instr (setup_of code s) s.b.guest) s.b.guest (next (setup_of code s).count s.b.guest) c).done

  -- ---- so it comes to the end

  Ends : Pair → List (List ℕ) → List ℕ → Type 0
  Ends s steps last = (k : ℕ) × (k ≤ length steps) × Takes code (laid s) (take k steps ++ (last ∷ []))

  limit-same : (s : Pair) → Nearing s → s.limit ≡ l
  unfolding setup_of under
  limit-same s n = ap (λ (T : Setup). T.limit) n.setup

  at_once : (s : Pair) (steps : List (List ℕ)) (last : List ℕ) → IsBEnd last → Nearing s → MayEnd s → Ends s steps last
  unfolding Ends malformed
  at_once s steps last b n m = let t = bend-taken s b.0 n m in (0, zero-le, ((stepped-taken code s last (BEnd b.0) t.0 None n.whole (four s n) b.1 refl t.1).0, tt))

  -- while B may run, its epoch has fewer than L instructions
  running : (s : Pair) → Nearing s → idle s || complete s.limit s.b.guest ≡ false → l ≤ s.b.guest.done + 0 → ⊥
  unfolding complete
  running s n q h =
      let a = leb-false s.limit s.b.guest.done (or_false (leb s.limit s.b.guest.done) (leb 40 s.b.guest.times) (or_false (idle s) _ q).1).0 in
      let z = limit-same s n in
      omega arith

  -- with as many BSTEPs as are left to L
  comes_to_end : (s : Pair) (steps : List (List ℕ)) (last : List ℕ) → AllBSteps steps → IsBEnd last → Nearing s → l ≤ s.b.guest.done + length steps → Ends s steps last
  unfolding Ends malformed
  comes_to_end s [] last a b n h = by_cases (idle s || complete s.limit s.b.guest) (λ q. at_once s [] last b n (or_true (idle s) _ q)) (λ q. absurd (running s n q h))
  comes_to_end s (bytes ∷ steps) last a b n h =
      by_cases (idle s || complete s.limit s.b.guest) (λ q. at_once s (bytes ∷ steps) last b n (or_true (idle s) _ q))
      (λ q.
      let v : ℕ = a.0.0 in
      let o = bstep-taken s v n q in
      let t : Pair = after_b (setup_of code s) s o.0 in
      let r = comes_to_end t steps last a.1 b (bstep_nearing s o.0 n q) (let d = bstep_done_lem s o.0 in omega arith) in
      let k = stepped-taken code s bytes (BStep v) t o.1 n.whole (four s n) a.0.1 refl o.2 in
      (suc r.0, suc-le-suc r.1, (k.0, subst (λ (x : Pair). Takes code x (take r.0 steps ++ (last ∷ []))) (sym k.1) r.2)))

-- ---- a full inbox holds the end that B waits for

module _ (S : Setup) (past : List LoneStep) (h : History) (w : Whole h.pair) (f : Flow h.pair) (k : CoreOf S past h) (less : h.pair.b.epoch.0 < h.pair.p.epoch.0) where
  -- without it, no message in the inbox is of a later epoch than the next
  none-later : has_end (next_epoch h.pair.b.epoch) h.pair.inbox ≡ false → All (λ m. epoch_of m ≤ suc h.pair.b.epoch.0) h.pair.inbox
  none-later q =
      by_cases (eqb (suc h.pair.b.epoch.0) h.pair.p.epoch.0)
      (λ z.
      let y = eqb-true (suc h.pair.b.epoch.0) h.pair.p.epoch.0 z in
      all_map (λ (m : Message). epoch_of m ≤ h.pair.p.epoch.0) (λ (m : Message). epoch_of m ≤ suc h.pair.b.epoch.0) (λ m u. omega arith) h.pair.inbox
      (all_left (λ (m : Message). epoch_of m ≤ h.pair.p.epoch.0) h.pair.inbox h.pair.link (wires_epochs h.pair.b.epoch h.pair.p.epoch h.pair.inbox h.pair.link k.wires)))
      (λ z.
      let ne = eqb-false (suc h.pair.b.epoch.0) h.pair.p.epoch.0 z in
      order_before (next_epoch h.pair.b.epoch) h.pair.inbox h.pair.link k.wires.order
      (or_other (has_end (next_epoch h.pair.b.epoch) h.pair.inbox) (has_end (next_epoch h.pair.b.epoch) h.pair.link)
      (sym (has_end-append (next_epoch h.pair.b.epoch) h.pair.inbox h.pair.link) ∙ k.wires.ends (next_epoch h.pair.b.epoch) (le_refl (suc h.pair.b.epoch.0)) (omega arith)) q))

  -- two epochs have at most 116
  full-end : 128 ≤ length h.pair.inbox → has_end (next_epoch h.pair.b.epoch) h.pair.inbox ≡ true
  full-end long =
      by_cases (has_end (next_epoch h.pair.b.epoch) h.pair.inbox) (λ q. q)
      (λ q.
      let two = count-two h.pair.b.epoch h.pair.inbox k.wires.oldest (none-later q) in
      let a = count_58 h.pair w f h.pair.b.epoch (omega arith) in
      let c = count_58 h.pair w f (next_epoch h.pair.b.epoch) less in
      let x = count-append (of_epoch h.pair.b.epoch) h.pair.inbox h.pair.link in
      let y = count-append (of_epoch (next_epoch h.pair.b.epoch)) h.pair.inbox h.pair.link in
      absurd (omega arith))

-- ---- the claim

-- LINK finds the inbox full: B is near its next epoch
full_nearing : (code : List ℕ) (l : ℕ) (g : good (under code l) ≡ true) (h : History) → Stage (under code l) h → Whole h.pair → Flow h.pair → (ev : Event) → Full h.pair ev → Nearing code l g h.pair
unfolding is_following under
full_nearing code l g h t w f ev (link_no_room n long) = by_inv t.inv
  where
    gone_by : is_following h.pair.role ≡ false → Nearing code l g h.pair
    gone_by q = absurd (n (gone (under code l) t.past h t.ledger w q).1)

    by_role : CoreOf (under code l) t.past h → (o : Role) → h.pair.role ≡ o → Stand o h.pair.b.epoch h.pair.p.epoch → Nearing code l g h.pair
    by_role k Following r s = let top = t.ledger.limited in record { role = r; here = full-end (under code l) t.past h w f k s long; more = λ z. omega arith; setup = t.ledger.setup; whole = w }
    by_role k Failover r s = gone_by (ap is_following r)
    by_role k Promoted r s = absurd s

    by_inv : Inv (under code l) t.past h → Nearing code l g h.pair
    by_inv (behind k) = by_role k h.pair.role refl k.stand
    by_inv (ahead a) = gone_by (ap is_following a.role)
    by_inv (alone a) = gone_by (ap is_following a.role)

pub link_full_lem : LinkFull
unfolding answer_number number Ends reached-pair
link_full_lem code l evs bytes q steps a long last b =
    let x = (refusals code (pair_after code l evs) bytes).inbox_full.0 q in
    by_cases (good (under code l))
    (λ g.
    let s : Pair = reached-pair code l evs in
    let n : Nearing code l g s = full_nearing code l g _ (stage (under code l) (events_in evs)) (reached-whole code l evs g) (flow_reached (under code l) (events_in evs)) x.0 (subst (λ (t : Pair). Full t x.0) (reached-seen code l evs g) x.2) in
    let r = comes_to_end code l g s steps last a b n (omega arith) in
    (r.0, (let y = r.1 in omega arith), subst (λ (t : Pair). Takes code t (take r.0 steps ++ (last ∷ []))) (sym (reached-laid code l evs g)) r.2))
    (λ z. clash x.1.sound (ap sound_pair (zero-after code l evs z) ∙ zero-unsound))
