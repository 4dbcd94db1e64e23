-- Every event that is taken leaves a sound pair.
use mathlib.Core.Bool.{Bool, ◌&&◌, ◌||◌, false, not, true}
use mathlib.Core.List.{List, [], ◌++◌, ◌∷◌}
use mathlib.Core.Path.{◌∙◌, ◌≡◌, ap, refl, subst, sym}
use Prim.Native.Nat.{◌*◌, ◌+◌, ◌≤◌, pred, suc, ℕ}
use borrow.Author.Tests.{eq-eqb, eqb-true, le-leb, leb-false, ne_eqb, not-false, not-true}
use lib.Dec.{eqb, leb}
use lib.ListN.{length, length-append}
use native.Mathlib.Nat.{add-le-add, le_refl, le_trans}
use native.Mathlib.Omega.{arith}
use Rattle.slots.proofs.Tests.{and_true, both, or_false}
use Rattle.slots.specs.Slots.{pick}
use Rattle.rules.proofs.Choices.{and_not_other, clash, nor_other, pick_case, pick-false, pick_true}
use Rattle.rules.proofs.Effect.{effect}
use Rattle.rules.proofs.GuestKept.{whole-boundary, whole-exec, whole-failover}
use Rattle.rules.proofs.GuestWhole.{WholeGuest}
use Rattle.rules.proofs.Lists.{All, all_append, all_map}
use Rattle.rules.proofs.Messages.{of_kind_lem, part_drop_epoch, part_unread}
use Rattle.rules.proofs.Operations.{distinct_last, exec-tabled, ops_last}
use Rattle.rules.proofs.PairSlots.{if_apply, if_stored, laid-seen-pair, seen-laid-pair, sound-laid-pair, sound-tight, whole-fits}
use Rattle.rules.proofs.PairWhole.{Whole, WholeBuffer, extra-one, spent, whole, whole_fresh, whole-sound}
use Rattle.rules.proofs.Parts.{Part, part_all, part_length, part_self}
use Rattle.rules.proofs.Verdicts.{IfTaken, if_linked, if_verdict, unless}
use Rattle.rules.specs.Boundary.{boundary}
use Rattle.rules.specs.Events.{Verdict, ended, handle, in_front, malformed, sends, step, turned, turned_last, unread}
use Rattle.rules.specs.Guest.{listed, ops_of}
use Rattle.rules.specs.GuestSound.{proper}
use Rattle.rules.specs.Instruction.{complete, is_time, next}
use Rattle.rules.specs.Messages.{drop_epoch, end, gather, has_end, int, int_of, interrupt_of, ints, of_kind, only, place, tme, val}
use Rattle.rules.specs.Pair.{acknowledged, awaited, buffers, clock_sent, enters, fresh_pair, halted, idle, is_failed, is_following, is_promoted, is_waiting, next_epoch, noticed, on_b, on_p, ran_on, received, setup_of}
use Rattle.rules.specs.PairKept.{PairKept}
use Rattle.rules.specs.PairSlots.{apply, seen, sound_pair}
use Rattle.rules.specs.Program.{Setup, at_time, exec, instr}
use Rattle.rules.specs.Sound.{extra, sound, sound_message, unacknowledged}
use Rattle.rules.specs.declared.Card.{Card}
use Rattle.rules.specs.declared.EpochNo.{EpochNo}
use Rattle.rules.specs.declared.Event.{Event}
use Rattle.rules.specs.declared.Event.TheVariants.{Ack, BEnd, BInt, BStep, Detect, Fail, Link, PEnd, PInt, PStep, PTime}
use Rattle.rules.specs.declared.Guest.{Guest}
use Rattle.rules.specs.declared.Interrupt.{Interrupt}
use Rattle.rules.specs.declared.Message.{Message}
use Rattle.rules.specs.declared.OpNo.{OpNo}
use Rattle.rules.specs.declared.Pair.{Pair}
use Rattle.rules.specs.declared.Phase.{Phase}
use Rattle.rules.specs.declared.Phase.TheVariants.{Failed, Running, Waiting}
use Rattle.rules.specs.declared.Refusal.TheVariants.{BadProgram, Dead, EpochsUsedUp, Malformed, MustWait, OutOfTurn, UnknownOperation, Unsound}
use Rattle.rules.specs.declared.Role.{Role}
use Rattle.rules.specs.declared.Role.TheVariants.{Failover, Following, Promoted}
use Rattle.rules.specs.declared.RecordEntry.{RecordEntry}
use Rattle.std.specs.Prelude.{Option}

-- ---- messages and interrupts

-- a message of an epoch from 1 on, with nothing in its unused fields
sound_plain : (k : ℕ) (e : EpochNo) (w : ℕ) → 1 ≤ e.0 → (eqb k 2 ≡ false) × (eqb k 1 || eqb k 3 || (eqb k 4 && eqb w 0) ≡ true) → sound_message (record { kind = k; status = 0; epoch = e; op = record { 0 = 0 }; word = w }) ≡ true
unfolding sound_message
sound_plain k e w h q = both (le-leb 1 e.0 h) (pick-false _ _ q.0 ∙ q.1)

sound-int : (e : EpochNo) (i : Interrupt) → 1 ≤ e.0 → proper i ≡ true → sound_message (int e i) ≡ true
unfolding sound_message int interrupt_of
sound-int e i h p = both (le-leb 1 e.0 h) p

-- the Ints of sound messages are as in PINT
pub ints-proper : (e : EpochNo) (ms : List Message) → All (λ m. sound_message m ≡ true) ms → All (λ i. proper i ≡ true) (ints e ms)
unfolding ints gather int_of place only sound_message
ints-proper e [] a = tt
ints-proper e (m ∷ ms) a = go (of_kind 2 e m) refl (ints-proper e ms a.1)
  where
    go : (b : Bool) → of_kind 2 e m ≡ b → All (λ i. proper i ≡ true) (ints e ms) → All (λ i. proper i ≡ true) (place (only b (interrupt_of m)) (gather (int_of e) ms))
    go false q r = r
    go true q r = (sym (pick_true (proper (interrupt_of m)) _ (eq-eqb m.kind 2 (of_kind_lem 2 e m q).1)) ∙ (and_true (leb 1 m.epoch.0) _ a.0).1, r)

-- ---- a card's buffer

buffer-step : (S : Setup) (c : Card) (w : ℕ) → WholeBuffer c → WholeBuffer (ran_on c (exec S c.guest w).guest)
unfolding ran_on
buffer-step S c w b =
    record {
      proper = b.proper;
      tabled = all_map (λ (o : OpNo). listed o c.guest.table ≡ true) (λ (o : OpNo). listed o (exec S c.guest w).guest.table ≡ true) (exec-tabled S c.guest w) (ops_of c.buffer) b.tabled;
      distinct = b.distinct;
    }

buffer_more : (c : Card) (i : Interrupt) → proper i ≡ true → awaited c i.op ≡ true → WholeBuffer c → WholeBuffer (buffers c i)
unfolding buffers awaited
buffer_more c i p q b =
    let a = and_true (listed i.op c.guest.table) (not (listed i.op (ops_of c.buffer))) q in
    record {
      proper = all_append (λ (j : Interrupt). proper j ≡ true) c.buffer (i ∷ []) b.proper (p, tt);
      tabled = rw (ops_last c.buffer i) (all_append (λ (o : OpNo). listed o c.guest.table ≡ true) (ops_of c.buffer) (i.op ∷ []) b.tabled (a.0, tt));
      distinct = rw (ops_last c.buffer i) (distinct_last (ops_of c.buffer) i.op b.distinct (not-true (listed i.op (ops_of c.buffer)) a.1));
    }

buffer-none : (c : Card) (g : Guest) → WholeBuffer (enters c g)
unfolding enters ops_of
buffer-none c g = record { proper = tt; tabled = tt; distinct = tt }

-- P's phase: extra messages
pub not_waiting : (f : Phase) → is_failed f ≡ false → is_waiting f ≡ false → extra f ≡ 0
unfolding is_failed is_waiting extra
not_waiting Running p q = refl
not_waiting (Waiting c) p q = clash refl q
not_waiting Failed p q = clash refl p

-- the Val that an instruction sends is a TIME that it counts
pub sends-length : (S : Setup) (c : Card) (w : ℕ) → c.guest.times + length (sends S c w) ≡ (exec S c.guest w).guest.times
unfolding sends at_time exec
sends-length S c w = go (is_time (instr S c.guest)) ∙ sym (effect (instr S c.guest) c.guest (next S.count c.guest) w).times
  where
    go : (b : Bool) → c.guest.times + length (pick b (val c.epoch w ∷ []) []) ≡ pick b (suc c.guest.times) c.guest.times
    go true = omega arith
    go false = omega arith

-- B after an instruction with the clock reading c
unfoldable pub after_b : Setup → Pair → ℕ → Pair
after_b S s c = on_b s (ran_on s.b (exec S s.b.guest c).guest) s.role (unread S s.b.epoch s.b.guest s.inbox)

module _ (code : List ℕ) (s : Pair) (w : Whole s) where
  -- ---- a pair with another first card; with another second card; with other phase, flags, link and inbox

  on_first : (c : Card) (f : Phase) (x : List Message) → WholeGuest s.count s.limit c.guest → WholeBuffer c → All (λ m. sound_message m ≡ true) x → unacknowledged s + length x ≤ suc (spent (on_p s c f x))
      → 1 ≤ c.epoch.0 → (is_waiting f ≡ true → complete s.limit c.guest ≡ true) → (s.detected ≡ true → is_failed f ≡ true) → Whole (on_p s c f x)
  unfolding on_p
  on_first c f x g b a k e r d =
      record {
        limits = record { limit_least = w.limits.limit_least; limit_most = w.limits.limit_most; count_least = w.limits.count_least; count_most = w.limits.count_most };
        first = g;
        second = w.second;
        first_buffer = b;
        second_buffer = w.second_buffer;
        wires = record { on_link = all_append (λ (m : Message). sound_message m ≡ true) s.link x w.wires.on_link a; in_inbox = w.wires.in_inbox; room = w.wires.room; flight = let z = length-append s.link x in omega arith };
        turns = record { entered = e; asleep = w.turns.asleep; ready = r; stopped = d; noticed = w.turns.noticed; unbuffered = w.turns.unbuffered };
      }

  on_second : (c : Card) (o : Role) (ms : List Message) → WholeGuest s.count s.limit c.guest → WholeBuffer c → Part ms s.inbox
      → (eqb c.epoch.0 0 ≡ true → (is_following o ≡ true) × (c.guest.done ≡ 0)) → (is_following o ≡ false → s.detected ≡ true) → (is_promoted o ≡ false → length c.buffer ≡ 0) → Whole (on_b s c o ms)
  unfolding on_b spent
  on_second c o ms g b r i n u =
      record {
        limits = record { limit_least = w.limits.limit_least; limit_most = w.limits.limit_most; count_least = w.limits.count_least; count_most = w.limits.count_most };
        first = w.first;
        second = g;
        first_buffer = w.first_buffer;
        second_buffer = b;
        wires = record { on_link = w.wires.on_link; in_inbox = part_all (λ (m : Message). sound_message m ≡ true) r w.wires.in_inbox; room = le_trans (part_length r) w.wires.room; flight = w.wires.flight };
        turns = record { entered = w.turns.entered; asleep = i; ready = w.turns.ready; stopped = w.turns.stopped; noticed = n; unbuffered = u };
      }

  rewired : (f : Phase) (d : Bool) (l : List Message) (n : ℕ) (ms : List Message) → All (λ m. sound_message m ≡ true) l → All (λ m. sound_message m ≡ true) ms → length ms ≤ 128
      → length l + n ≤ suc (s.p.guest.times + length s.p.buffer + extra f)
      → (is_waiting f ≡ true → complete s.limit s.p.guest ≡ true) → (d ≡ true → is_failed f ≡ true) → (is_following s.role ≡ false → d ≡ true)
      → Whole (record { p = s.p; phase = f; b = s.b; role = s.role; detected = d; limit = s.limit; count = s.count; link = l; acks = n; inbox = ms })
  unfolding spent
  rewired f d l n ms a b k t r p q =
      record {
        limits = record { limit_least = w.limits.limit_least; limit_most = w.limits.limit_most; count_least = w.limits.count_least; count_most = w.limits.count_most };
        first = w.first;
        second = w.second;
        first_buffer = w.first_buffer;
        second_buffer = w.second_buffer;
        wires = record { on_link = a; in_inbox = b; room = k; flight = t };
        turns = record { entered = w.turns.entered; asleep = w.turns.asleep; ready = r; stopped = p; noticed = q; unbuffered = w.turns.unbuffered };
      }

  -- ---- the events: which clock is read, which Ints are delivered and which role follows does not matter here

  Keeps : Verdict → Type 0
  Keeps = IfTaken (λ t o. Whole t)

  S : Setup
  S = setup_of code s

  alive : is_failed s.phase ≡ false → s.detected ≡ true → (f : Phase) → is_failed f ≡ true
  alive q d f = clash (w.turns.stopped d) q

  whole-pstep : (v : ℕ) → Keeps (handle S s (PStep v))
  unfolding Keeps S handle on_p ran_on spent setup_of sends val
  whole-pstep v =
      unless _ _ Dead _ λ q₁.
      unless _ _ OutOfTurn _ λ q₂.
      unless _ _ BadProgram _ λ q₃.
      on_first (ran_on s.p (exec S s.p.guest v).guest) s.phase (sends S s.p v) (whole-exec S s.p.guest v q₂ w.first) (buffer-step S s.p v w.first_buffer)
      (pick_case (All (λ (m : Message). sound_message m ≡ true)) (at_time S s.p.guest) (val s.p.epoch v ∷ []) [] (λ _. (sound_plain 1 s.p.epoch v w.turns.entered (refl, refl), tt)) (λ _. tt))
      (let k = sends-length S s.p v in let y = w.wires.flight in omega arith)
      w.turns.entered (λ r. clash (w.turns.ready r) q₂) w.turns.stopped

  whole-pint : (i : Interrupt) → proper i ≡ true → Keeps (handle S s (PInt i))
  unfolding Keeps S handle on_p buffers spent setup_of
  whole-pint i p =
      unless _ _ Dead _ λ q₁.
      unless _ _ UnknownOperation _ λ q₂.
      on_first (buffers s.p i) s.phase (int s.p.epoch i ∷ []) w.first (buffer_more s.p i p (not-false (awaited s.p i.op) q₂) w.first_buffer)
      (sound-int s.p.epoch i w.turns.entered p, tt)
      (let k = length-append s.p.buffer (i ∷ []) in let y = w.wires.flight in omega arith)
      w.turns.entered w.turns.ready w.turns.stopped

  whole-ptime : (v : ℕ) → Keeps (handle S s (PTime v))
  unfolding Keeps S handle on_p spent extra setup_of tme
  whole-ptime v =
      unless _ _ Dead _ λ q₁.
      unless _ _ OutOfTurn _ λ q₂.
      let a = or_false (not (complete s.limit s.p.guest)) (is_waiting s.phase) q₂ in
      on_first s.p (Waiting v) (tme s.p.epoch v ∷ []) w.first w.first_buffer (sound_plain 3 s.p.epoch v w.turns.entered (refl, refl), tt)
      (let z = not_waiting s.phase q₁ a.1 in let y = w.wires.flight in omega arith)
      w.turns.entered (λ _. not-false (complete s.limit s.p.guest) a.0) (λ d. alive q₁ d (Waiting v))

  whole-pend : Keeps (handle S s PEnd)
  unfolding Keeps S handle on_p enters spent extra setup_of end is_waiting
  whole-pend =
      unless _ _ Dead _ λ q₁.
      unless _ _ OutOfTurn _ λ q₂.
      unless _ _ EpochsUsedUp _ λ q₃.
      unless _ _ MustWait _ λ q₄.
      let none = eqb-true (unacknowledged s) 0 (not-false (eqb (unacknowledged s) 0) q₄) in
      on_first (enters s.p (boundary s.p.buffer (clock_sent s.phase) s.p.guest)) Running (end s.p.epoch ∷ [])
      (whole-boundary s.count s.limit s.p.buffer (clock_sent s.phase) s.p.guest w.first_buffer.proper w.first) (buffer-none s.p _)
      (sound_plain 4 s.p.epoch 0 w.turns.entered (refl, refl), tt) (omega arith) (omega arith) (λ r. clash r refl) (λ d. alive q₁ d Running)

  whole-link : Keeps (handle S s Link)
  unfolding Keeps S handle received spent
  whole-link =
      if_linked (λ t o. Whole t) s λ m ms e q.
      let a : All (λ m. sound_message m ≡ true) (m ∷ ms) = subst (All (λ (m : Message). sound_message m ≡ true)) e w.wires.on_link in
      rewired s.phase s.detected ms (suc s.acks) (s.inbox ++ (m ∷ [])) a.1 (all_append (λ (m : Message). sound_message m ≡ true) s.inbox (m ∷ []) w.wires.in_inbox (a.0, tt))
      (let k = length-append s.inbox (m ∷ []) in let y = leb-false 128 (length s.inbox) q in omega arith)
      (let k : length s.link ≡ suc (length ms) = ap length e in let y = w.wires.flight in omega arith)
      w.turns.ready w.turns.stopped w.turns.noticed

  whole-ack : Keeps (handle S s Ack)
  unfolding Keeps S handle acknowledged spent
  whole-ack =
      unless _ _ Dead _ λ _.
      unless _ _ MustWait _ λ _.
      rewired s.phase s.detected s.link (pred s.acks) s.inbox w.wires.on_link w.wires.in_inbox w.wires.room
      (le_trans (add-le-add (le_refl (length s.link)) (less s.acks)) w.wires.flight) w.turns.ready w.turns.stopped w.turns.noticed
    where
      less : (n : ℕ) → pred n ≤ n
      less n = omega arith

  whole-fail : Keeps (handle S s Fail)
  unfolding Keeps S handle halted spent extra is_waiting is_failed
  whole-fail =
      unless _ _ Dead _ λ _.
      rewired Failed s.detected s.link s.acks s.inbox w.wires.on_link w.wires.in_inbox w.wires.room
      (let x = extra-one s.phase in let y = w.wires.flight in omega arith) (λ r. clash r refl) (λ _. refl) w.turns.noticed

  whole-detect : Keeps (handle S s Detect)
  unfolding Keeps S handle noticed spent
  whole-detect =
      unless _ _ OutOfTurn _ λ q.
      unless _ _ MustWait _ λ _.
      rewired s.phase true s.link s.acks s.inbox w.wires.on_link w.wires.in_inbox w.wires.room w.wires.flight w.turns.ready
      (λ _. not-false (is_failed s.phase) (or_false (not (is_failed s.phase)) s.detected q).0) (λ _. refl)

  pub whole-bstep : (c : ℕ) → idle s || complete s.limit s.b.guest ≡ false → Whole (after_b (setup_of code s) s c)
  unfolding after_b ran_on setup_of
  whole-bstep c q =
      let a = or_false (idle s) (complete s.limit s.b.guest) q in
      on_second (ran_on s.b (exec (setup_of code s) s.b.guest c).guest) s.role (unread (setup_of code s) s.b.epoch s.b.guest s.inbox)
      (whole-exec (setup_of code s) s.b.guest c a.1 w.second) (buffer-step (setup_of code s) s.b c w.second_buffer) (part_unread (setup_of code s) s.b.epoch s.b.guest s.inbox)
      (λ z. clash z a.0) w.turns.noticed w.turns.unbuffered

  -- B in its next epoch
  entered : (g : Guest) (o : Role) (ms : List Message) → WholeGuest s.count s.limit g → Part ms s.inbox → (is_following o ≡ false → s.detected ≡ true) → Whole (on_b s (enters s.b g) o ms)
  unfolding enters
  entered g o ms k r d = on_second (enters s.b g) o ms k (buffer-none s.b g) r (λ z. clash z (ne_eqb (suc s.b.epoch.0) 0 (λ y. omega arith))) d (λ _. refl)

  whole-bend : (v : ℕ) → Keeps (handle S s (BEnd v))
  unfolding Keeps S handle ended turned turned_last is_following
  whole-bend v =
      unless _ _ OutOfTurn _ λ _.
      unless _ _ EpochsUsedUp _ λ _.
      go s.role refl
    where
      proper-ints : (e : EpochNo) → All (λ i. proper i ≡ true) (ints e s.inbox)
      proper-ints e = ints-proper e s.inbox w.wires.in_inbox

      over : (o : Role) → s.role ≡ o → is_following o ≡ false → s.detected ≡ true
      over o q n = w.turns.noticed (ap is_following q ∙ n)

      go : (o : Role) → s.role ≡ o → Keeps (ended s v o)
      go Following q =
          unless _ _ MustWait _ λ n.
          entered _ _ (drop_epoch s.b.epoch s.inbox)
          (pick_case (WholeGuest s.count s.limit) (idle s) s.b.guest _ (λ _. w.second)
          (λ _. whole-boundary s.count s.limit _ _ s.b.guest (proper-ints _) w.second))
          (part_drop_epoch s.b.epoch s.inbox)
          (pick_case (λ (o : Role). is_following o ≡ false → s.detected ≡ true) (has_end (next_epoch s.b.epoch) s.inbox) Following _ (λ _ z. clash refl z) (λ f _. nor_other (has_end (next_epoch s.b.epoch) s.inbox) s.detected n f))
      go Failover q =
          entered _ Promoted (drop_epoch s.b.epoch s.inbox) (whole-failover s.count s.limit _ _ s.b.guest (proper-ints _) w.second)
          (part_drop_epoch s.b.epoch s.inbox) (λ _. over Failover q refl)
      go Promoted q =
          entered _ Promoted s.inbox (whole-boundary s.count s.limit s.b.buffer v s.b.guest w.second_buffer.proper w.second) (part_self s.inbox) (λ _. over Promoted q refl)

  whole-bint : (i : Interrupt) → proper i ≡ true → Keeps (handle S s (BInt i))
  unfolding Keeps S handle buffers
  whole-bint i p =
      unless _ _ UnknownOperation _ λ q.
      pick_case Whole (is_promoted s.role) (on_b s (buffers s.b i) s.role s.inbox) s
      (λ y. on_second (buffers s.b i) s.role s.inbox w.second (buffer_more s.b i p (and_not_other (is_promoted s.role) (awaited s.b i.op) q y) w.second_buffer) (part_self s.inbox) w.turns.asleep w.turns.noticed (λ n. clash y n))
      (λ _. w)

  pub whole-handle : (ev : Event) → malformed ev ≡ false → IfTaken (λ t o. Whole t) (handle (setup_of code s) s ev)
  unfolding Keeps S malformed handle after_b setup_of
  whole-handle (PStep v) m = whole-pstep v
  whole-handle (PInt i) m = whole-pint i (not-false (proper i) m)
  whole-handle (PTime v) m = whole-ptime v
  whole-handle PEnd m = whole-pend
  whole-handle Link m = whole-link
  whole-handle Ack m = whole-ack
  whole-handle Fail m = whole-fail
  whole-handle Detect m = whole-detect
  whole-handle (BStep v) m = unless _ _ OutOfTurn _ λ q. unless _ _ BadProgram _ λ _. whole-bstep _ q
  whole-handle (BEnd v) m = whole-bend v
  whole-handle (BInt i) m = whole-bint i (not-false (proper i) m)

-- ---- the tests in front, once for all that an event keeps

pub if_step {κ} : (Q : Pair → Option RecordEntry → Type κ) (code : List ℕ) (s : Pair) (ev : Event) → (malformed ev ≡ false → Whole s → IfTaken Q (handle (setup_of code s) s ev)) → IfTaken Q (step code s ev)
unfolding step in_front
if_step Q code s ev f =
    unless Q (malformed ev) Malformed _ λ m.
    unless Q (not (sound s)) Unsound _ λ n.
    unless Q (not (eqb (length code) (4 * s.count))) BadProgram _ λ _.
    f m (whole s (not-false (sound s) n))

-- a pair that an event leaves is sound
pub sound-step : (code : List ℕ) (s : Pair) (ev : Event) → IfTaken (λ t o. Whole t) (step code s ev)
sound-step code s ev = if_step (λ t o. Whole t) code s ev λ m w. whole-handle code s w ev m

-- ---- in memory

pub sound-apply : (code : List ℕ) (s : Pair) (ev : Event) → IfTaken (λ t o. sound_pair t ≡ true) (apply code s ev)
sound-apply code s ev =
    if_apply (λ t o. sound_pair t ≡ true) code s ev λ m w.
    if_stored (λ t o. Whole t) (λ t o. sound_pair t ≡ true) (λ t o k. sound-laid-pair t k) (handle (setup_of code (seen s)) (seen s) ev) (whole-handle code (seen s) w ev m)

pub pair-kept : PairKept
pair-kept =
    record {
      start = λ S g. whole-sound (fresh_pair S) (whole_fresh S g);
      handled = λ code s ev t o h m q. whole-sound t (if_verdict (λ t o. Whole t) (handle (setup_of code s) s ev) t o (whole-handle code s (whole s h) ev m) q);
      model = λ code s ev t o q. whole-sound t (if_verdict (λ t o. Whole t) (step code s ev) t o (sound-step code s ev) q);
      laid_sound = λ s h. sound-laid-pair s (whole s h);
      fits = λ s h. seen-laid-pair s (whole-fits s (whole s h));
      slots = λ s z h. laid-seen-pair s z (sound-tight s h);
      in_memory = λ code s ev t o q. if_verdict (λ t o. sound_pair t ≡ true) (apply code s ev) t o (sound-apply code s ev) q;
    }
