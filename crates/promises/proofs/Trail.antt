-- The trail: the second card, with the messages that it has or will have, can follow to where the first card is.
use mathlib.Core.Bool.{Bool, false, not, true}
use mathlib.Core.List.{List, [], ◌++◌, ◌∷◌, append_assoc, append-nil}
use mathlib.Core.Path.{◌∙◌, ◌≡◌, ap, ap₂, refl, subst, sym}
use Prim.Native.Nat.{◌≤◌, suc, ℕ}
use native.Mathlib.Nat.{le_refl}
use native.Mathlib.Omega.{arith}
use Rattle.rules.proofs.Choices.{and_right, by_cases, pick_case, pick-false, pick_true}
use Rattle.rules.proofs.Lists.{All, all_append, all_map}
use Rattle.rules.proofs.Messages.{Holds, NonEmpty, Without, drop_val-last, end_holds, epoch_of, gathered_append, gathered_none, int_holds, part_drop_epoch, tme_holds, val_holds}
use Rattle.rules.proofs.Parts.{part_all}
use Rattle.rules.specs.Boundary.{boundary}
use Rattle.rules.specs.Events.{sends, turned, unread}
use Rattle.rules.specs.Instruction.{complete}
use Rattle.rules.specs.Messages.{drop_epoch, drop_val, end, first, int, ints, tme, tmes, val, vals}
use Rattle.rules.specs.Pair.{buffers, enters, next_epoch, ran_on}
use Rattle.rules.specs.Program.{Setup, at_time, exec}
use Rattle.rules.specs.declared.Card.{Card}
use Rattle.rules.specs.declared.EpochNo.{EpochNo}
use Rattle.rules.specs.declared.Guest.{Guest}
use Rattle.rules.specs.declared.Interrupt.{Interrupt}
use Rattle.rules.specs.declared.Message.{Message}
use Rattle.rules.specs.declared.Phase.{Phase}
use Rattle.rules.specs.declared.Phase.TheVariants.{Failed, Running, Waiting}
use Rattle.rules.specs.declared.Ran.{Ran}
use Rattle.slots.specs.Slots.{pick}
use Rattle.promises.proofs.Follow.{Able, Late, Legal, Move, Post, Sent, act, add, exec-clock, follow, follow_all, follow_append, legal_append, move, passes, passes_append, sent, turn}

-- the clocks that P has sent for the boundary of its epoch
abbrev pub Clocks : Phase → List ℕ → Type 0
Clocks Running l = l ≡ []
Clocks (Waiting c) l = l ≡ c ∷ []
Clocks Failed l = Unit

-- the follower t is where the card c is
pub record Level (t : Post) (c : Card) (f : Phase) : Type 0 where
  pub awake : t.idle ≡ false
  pub epoch : t.epoch ≡ c.epoch
  pub guest : t.guest ≡ c.guest
  pub no_vals : vals c.epoch t.msgs ≡ []
  pub same_ints : ints c.epoch t.msgs ≡ c.buffer
  pub clocks : Clocks f (tmes c.epoch t.msgs)

-- nothing is appended
none_more {ℓ} : {X : Type ℓ} (l m : List X) → m ≡ [] → l ++ m ≡ l
none_more {X = X} l m q = ap (λ (k : List X). l ++ k) q ∙ append-nil l

module _ (t : Post) (c : Card) (f : Phase) (h : Level t c f) where
  -- a message with no Val is sent, and what it holds is buffered
  level_sent : (m : Message) (is : List Interrupt) (ts : List ℕ) (bs : List Interrupt) (f' : Phase) → Holds c.epoch m [] is ts → c.buffer ++ is ≡ bs → (Clocks f (tmes c.epoch t.msgs) → Clocks f' (tmes c.epoch t.msgs ++ ts))
      → Level (add (m ∷ []) t) (record { guest = c.guest; epoch = c.epoch; buffer = bs }) f'
  unfolding add
  level_sent m is ts bs f' b q k =
      let a = gathered_append c.epoch t.msgs (m ∷ []) in
      record {
        awake = h.awake;
        epoch = h.epoch;
        guest = h.guest;
        no_vals = a.0 ∙ none_more (vals c.epoch t.msgs) (vals c.epoch (m ∷ [])) b.0 ∙ h.no_vals;
        same_ints = a.1 ∙ ap₂ (λ (x y : List Interrupt). x ++ y) h.same_ints b.1 ∙ q;
        clocks = subst (Clocks f') (sym (a.2 ∙ ap (λ (l : List ℕ). tmes c.epoch t.msgs ++ l) b.2)) (k h.clocks);
      }

  -- an interrupt
  level_int : (i : Interrupt) → Level (add (int c.epoch i ∷ []) t) (buffers c i) f
  unfolding buffers
  level_int i = level_sent (int c.epoch i) (i ∷ []) [] _ f (int_holds c.epoch i) refl (λ k. rw (append-nil (tmes c.epoch t.msgs)) k)

  level_failed : Level t c Failed
  level_failed = record { awake = h.awake; epoch = h.epoch; guest = h.guest; no_vals = h.no_vals; same_ints = h.same_ints; clocks = tt }

-- the clock
level_tme : (t : Post) (c : Card) (w : ℕ) → Level t c Running → Level (add (tme c.epoch w ∷ []) t) c (Waiting w)
level_tme t c w h = level_sent t c Running h (tme c.epoch w) [] (w ∷ []) c.buffer (Waiting w) (tme_holds c.epoch w) (append-nil c.buffer) (λ k. ap (λ (l : List ℕ). l ++ (w ∷ [])) k)

module _ (S : Setup) where
  module _ (c : Card) (ms : List Message) (w : ℕ) (h : vals c.epoch ms ≡ []) where
    ran-vals : at_time S c.guest ≡ true → vals c.epoch (ms ++ sends S c w) ≡ w ∷ []
    unfolding sends
    ran-vals q =
        (gathered_append c.epoch ms (sends S c w)).0
        ∙ ap₂ (λ (a b : List ℕ). a ++ b) h (ap (vals c.epoch) (pick_true (val c.epoch w ∷ []) [] q) ∙ (val_holds c.epoch w).0)

    ran-clock : exec S c.guest (first (vals c.epoch (ms ++ sends S c w)) 0) ≡ exec S c.guest w
    unfolding first
    ran-clock =
        by_cases (at_time S c.guest)
        (λ q. ap (λ (l : List ℕ). exec S c.guest (first l 0)) (ran-vals q))
        (λ q. exec-clock S c.guest (first (vals c.epoch (ms ++ sends S c w)) 0) w q)

    ran-unread : unread S c.epoch c.guest (ms ++ sends S c w) ≡ ms
    unfolding unread sends
    ran-unread = go (at_time S c.guest)
      where
        go : (b : Bool) → pick b (drop_val c.epoch (ms ++ pick b (val c.epoch w ∷ []) [])) (ms ++ pick b (val c.epoch w ∷ []) []) ≡ ms
        go true = drop_val-last c.epoch w ms h
        go false = append-nil ms

  -- an instruction, with the Val that it sends
  ran_post : (t : Post) (c : Card) (f : Phase) (w : ℕ) → Level t c f → move S act (add (sends S c w) t) ≡ record { idle = t.idle; epoch = t.epoch; guest = (exec S c.guest w).guest; msgs = t.msgs }
  unfolding move add
  ran_post t c f w h =
      rw (h.epoch, h.guest) (ap₂ (λ (r : Ran) (ms : List Message). record { idle = t.idle; epoch = c.epoch; guest = r.guest; msgs = ms }) (ran-clock c t.msgs w h.no_vals) (ran-unread c t.msgs w h.no_vals))

  ran_able : (t : Post) (c : Card) (f : Phase) (w : ℕ) → Level t c f → complete S.limit c.guest ≡ false → Able S act (add (sends S c w) t)
  unfolding add sends
  ran_able t c f w h n = rw (h.epoch, h.guest) (h.awake, n, λ q. subst NonEmpty (sym (ran-vals c t.msgs w h.no_vals q)) tt)

  -- what the end that it sends leaves to be read
  end_reads : (c : Card) (ms : List Message) → (ints c.epoch (ms ++ (end c.epoch ∷ [])) ≡ ints c.epoch ms) × (tmes c.epoch (ms ++ (end c.epoch ∷ [])) ≡ tmes c.epoch ms)
  end_reads c ms =
      let a = gathered_append c.epoch ms (end c.epoch ∷ []) in
      let b = end_holds c.epoch in
      (a.1 ∙ none_more (ints c.epoch ms) _ b.1, a.2 ∙ none_more (tmes c.epoch ms) _ b.2)

  -- the boundary, with the end that it sends
  end_post : (t : Post) (c : Card) (w : ℕ) → Level t c (Waiting w) → (move S turn (add (end c.epoch ∷ []) t)).guest ≡ boundary c.buffer w c.guest
  unfolding move add turned first
  end_post t c w h =
      let a = end_reads c t.msgs in
      rw (h.epoch, h.guest)
      (pick-false c.guest (boundary (ints c.epoch (t.msgs ++ (end c.epoch ∷ []))) (first (tmes c.epoch (t.msgs ++ (end c.epoch ∷ []))) 0) c.guest) h.awake
      ∙ ap₂ (λ (l : List Interrupt) (m : List ℕ). boundary l (first m 0) c.guest) (a.0 ∙ h.same_ints) (a.1 ∙ h.clocks))

  pub record Trail (s : Post) (c : Card) (f : Phase) (eb ep : List Guest) : Type 0 where
    pub path : List Move
    pub legal : Legal S path s
    pub level : Level (follow S path s) c f
    pub entered : eb ++ passes S path s ≡ ep

  -- the first card moves on by j, after sending x
  extend : (s : Post) (c d : Card) (f f' : Phase) (eb ep : List Guest) (x : List Message) (j : List Move) (r : Trail s c f eb ep)
      → Late c.epoch.0 x → Legal S j (add x (follow S r.path s)) → Level (follow S j (add x (follow S r.path s))) d f'
      → Trail (add x s) d f' eb (ep ++ passes S j (add x (follow S r.path s)))
  extend s c d f f' eb ep x j r a l v =
      let k : List Move = r.path in
      let late : Late (follow S k s).epoch.0 x = subst (λ (e : EpochNo). Late e.0 x) (sym r.level.epoch) a in
      let u : Sent S k s x = sent S k s x r.legal late in
      record {
        path = k ++ j;
        legal = legal_append S k j (add x s) u.legal (rw u.ends l);
        level = rw (follow_append S k j (add x s), u.ends) v;
        entered = rw (passes_append S k j (add x s), u.guests, u.ends, ← append_assoc, r.entered);
      }

  -- ---- the first card's events, on the trail

  module _ (s : Post) (c : Card) (f : Phase) (eb ep : List Guest) (r : Trail s c f eb ep) where
    -- messages sent, and no move
    send : (d : Card) (f' : Phase) (x : List Message) → Late c.epoch.0 x → Level (add x (follow S r.path s)) d f' → Trail (add x s) d f' eb ep
    unfolding follow passes
    send d f' x a v = subst (λ (l : List Guest). Trail (add x s) d f' eb l) (append-nil ep) (extend s c d f f' eb ep x [] r a tt v)

    pub trail_int : (i : Interrupt) → Trail (add (int c.epoch i ∷ []) s) (buffers c i) f eb ep
    unfolding int
    trail_int i = send (buffers c i) f (int c.epoch i ∷ []) (le_refl c.epoch.0, tt) (level_int (follow S r.path s) c f r.level i)

    pub trail_failed : Trail s c Failed eb ep
    trail_failed = record { path = r.path; legal = r.legal; level = level_failed (follow S r.path s) c f r.level; entered = r.entered }

    pub trail_step : (w : ℕ) → complete S.limit c.guest ≡ false → Trail (add (sends S c w) s) (ran_on c (exec S c.guest w).guest) f eb ep
    unfolding follow passes ran_on sends val
    trail_step w n =
        let t : Post = follow S r.path s in
        let v : Level t c f = r.level in
        subst (λ (l : List Guest). Trail (add (sends S c w) s) (ran_on c (exec S c.guest w).guest) f eb l) (append-nil ep)
        (extend s c (ran_on c (exec S c.guest w).guest) f f eb ep (sends S c w) (act ∷ []) r
        (pick_case (Late c.epoch.0) (at_time S c.guest) (val c.epoch w ∷ []) [] (λ _. (le_refl c.epoch.0, tt)) (λ _. tt)) (ran_able t c f w v n, tt)
        (subst (λ (u : Post). Level u (ran_on c (exec S c.guest w).guest) f) (sym (ran_post t c f w v))
        (record { awake = v.awake; epoch = v.epoch; guest = refl; no_vals = v.no_vals; same_ints = v.same_ints; clocks = v.clocks })))

  pub trail_tme : (s : Post) (c : Card) (eb ep : List Guest) (w : ℕ) → Trail s c Running eb ep → Trail (add (tme c.epoch w ∷ []) s) c (Waiting w) eb ep
  unfolding tme
  trail_tme s c eb ep w r = send s c Running eb ep r c (Waiting w) (tme c.epoch w ∷ []) (le_refl c.epoch.0, tt) (level_tme (follow S r.path s) c w r.level)

  -- all messages are of epochs up to e: after its boundary none is left for the next
  end_level : (t : Post) (c : Card) (w : ℕ) → Level t c (Waiting w) → All (λ m. epoch_of m ≤ c.epoch.0) t.msgs → Level (move S turn (add (end c.epoch ∷ []) t)) (enters c (boundary c.buffer w c.guest)) Running
  unfolding enters move add end
  end_level t c w h a =
      let x : List Message = t.msgs ++ (end c.epoch ∷ []) in
      let left : Without (next_epoch c.epoch) (drop_epoch t.epoch x) =
      part_all (λ (m : Message). epoch_of m ≡ suc c.epoch.0 → ⊥) (part_drop_epoch t.epoch x)
      (all_map (λ (m : Message). epoch_of m ≤ c.epoch.0) (λ (m : Message). epoch_of m ≡ suc c.epoch.0 → ⊥) (λ m k q. omega arith) x
      (all_append (λ (m : Message). epoch_of m ≤ c.epoch.0) t.msgs (end c.epoch ∷ []) a (le_refl c.epoch.0, tt))) in
      let b = gathered_none (next_epoch c.epoch) (drop_epoch t.epoch x) left in
      record { awake = refl; epoch = ap (λ (e : EpochNo). next_epoch e) h.epoch; guest = end_post t c w h; no_vals = b.0; same_ints = b.1; clocks = b.2 }

  end_able : (t : Post) (c : Card) (w : ℕ) → Level t c (Waiting w) → complete S.limit c.guest ≡ true → Able S turn (add (end c.epoch ∷ []) t)
  unfolding add
  end_able t c w h n = rw (h.epoch, h.guest, n) (and_right (not t.idle) false refl, λ _. subst NonEmpty (sym ((end_reads c t.msgs).1 ∙ h.clocks)) tt)

  pub trail_end : (s : Post) (c : Card) (eb ep : List Guest) (w : ℕ) → Trail s c (Waiting w) eb ep → complete S.limit c.guest ≡ true → All (λ m. epoch_of m ≤ c.epoch.0) s.msgs
      → Trail (add (end c.epoch ∷ []) s) (enters c (boundary c.buffer w c.guest)) Running eb (ep ++ (boundary c.buffer w c.guest ∷ []))
  unfolding follow passes end
  trail_end s c eb ep w r n a =
      let t : Post = follow S r.path s in
      let d : Card = enters c (boundary c.buffer w c.guest) in
      subst (λ (g : Guest). Trail (add (end c.epoch ∷ []) s) d Running eb (ep ++ (g ∷ []))) (end_post t c w r.level)
      (extend s c d (Waiting w) Running eb ep (end c.epoch ∷ []) (turn ∷ []) r (le_refl c.epoch.0, tt)
      (end_able t c w r.level n, tt)
      (end_level t c w r.level (follow_all S (λ (m : Message). epoch_of m ≤ c.epoch.0) r.path s a)))

  -- ---- the second card's next move

  pub data Next (s : Post) (c : Card) (f : Phase) (eb ep : List Guest) : Type 0 where
    there : Level s c f → eb ≡ ep → Next s c f eb ep
    acts : Able S act s → Trail (move S act s) c f eb ep → Next s c f eb ep
    turns : Able S turn s → Trail (move S turn s) c f (eb ++ ((move S turn s).guest ∷ [])) ep → Next s c f eb ep

  pub next_move : (s : Post) (c : Card) (f : Phase) (eb ep : List Guest) → Trail s c f eb ep → Next s c f eb ep
  unfolding follow passes
  next_move s c f eb ep r = go r.path r.legal r.level r.entered
    where
      go : (k : List Move) → Legal S k s → Level (follow S k s) c f → eb ++ passes S k s ≡ ep → Next s c f eb ep
      go [] l v e = there v (sym (append-nil eb) ∙ e)
      go (act ∷ k) l v e = acts l.0 (record { path = k; legal = l.1; level = v; entered = e })
      go (turn ∷ k) l v e = turns l.0 (record { path = k; legal = l.1; level = v; entered = append_assoc eb ((move S turn s).guest ∷ []) (passes S k (move S turn s)) ∙ e })
