-- Between a pair and its slots: a sound pair fits them, so that the pair in memory does what the model does.
use mathlib.Core.Bool.{Bool, ◌&&◌, ◌||◌, false, not, true}
use mathlib.Core.List.{List, []}
use mathlib.Core.Path.{◌∙◌, ◌≡◌, ap, refl, sym}
use Prim.Native.Nat.{◌*◌, ◌≤◌, zero-le, ℕ}
use borrow.Author.Tests.{ne_eqb, not-false}
use lib.Dec.{eqb, leb}
use lib.ListN.{length}
use native.Mathlib.Omega.{arith}
use Rattle.slots.proofs.Lists.{every-nil}
use Rattle.slots.proofs.Padded.{entries-padded, tight-laid, tight-padded}
use Rattle.slots.proofs.Tests.{and_true, both, is_used}
use Rattle.slots.specs.Slots.{any, every, tight}
use Rattle.rules.proofs.Choices.{clash, pick-false}
use Rattle.rules.proofs.GuestSlots.{FitsGuest, fits_whole, laid-seen, proper_used, seen-laid, tight-laid_guest}
use Rattle.rules.proofs.GuestWhole.{WholeGuest}
use Rattle.rules.proofs.Lists.{All, all-every, all_map}
use Rattle.rules.proofs.PairWhole.{Whole, WholeBuffer, at-most_58, buffered, whole, whole-sound}
use Rattle.rules.proofs.Verdicts.{IfTaken, unless}
use Rattle.rules.specs.Events.{Verdict, handle, in_front, malformed, refuse, refused, step, taken}
use Rattle.rules.specs.Guest.{fresh}
use Rattle.rules.specs.GuestSlots.{is_zero_interrupt, tight_guest, used_interrupt, used_op, zero_interrupt}
use Rattle.rules.specs.GuestSound.{proper}
use Rattle.rules.specs.Messages.{interrupt_of}
use Rattle.rules.specs.Pair.{fresh_pair, setup_of}
use Rattle.rules.specs.PairKept.{Sized, SizedCard}
use Rattle.rules.specs.Zeros.{zero_interrupt_lem, zero_message_lem}
use Rattle.rules.specs.PairSlots.{apply, is_zero_message, laid, laid_card, seen, seen_card, sound_pair, stored, tight_card, tight_pair, used_message, zero_message}
use Rattle.rules.specs.Program.{Setup}
use Rattle.rules.specs.Sound.{sound, sound_message}
use Rattle.rules.specs.declared.Card.{Card}
use Rattle.rules.specs.declared.EpochNo.{EpochNo}
use Rattle.rules.specs.declared.Event.{Event}
use Rattle.rules.specs.declared.Interrupt.{Interrupt}
use Rattle.rules.specs.declared.Message.{Message}
use Rattle.rules.specs.declared.Pair.{Pair}
use Rattle.rules.specs.declared.Refusal.TheVariants.{BadProgram, Malformed, Unsound}
use Rattle.rules.specs.declared.RecordEntry.{RecordEntry}
use Rattle.std.specs.Prelude.{Option}

-- ---- what fits

pub record FitsCard (c : Card) : Type 0 where
  pub guest : FitsGuest c.guest
  pub buffer : every used_interrupt c.buffer ≡ true
  pub room : length c.buffer ≤ 16

pub record Fits (s : Pair) : Type 0 where
  pub p : FitsCard s.p
  pub b : FitsCard s.b
  pub link : every used_message s.link ≡ true
  pub link_room : length s.link ≤ 58
  pub inbox : every used_message s.inbox ≡ true
  pub inbox_room : length s.inbox ≤ 128

-- what is laid out is seen again
seen-laid_card : (c : Card) → FitsCard c → seen_card (laid_card c) ≡ c
unfolding seen_card laid_card
seen-laid_card c f =
    let g = seen-laid c.guest f.guest in
    let i = entries-padded used_interrupt zero_interrupt refl 16 c.buffer f.buffer f.room in
    λ k. record { guest = g k; epoch = c.epoch; buffer = i k }

pub seen-laid-pair : (s : Pair) → Fits s → seen (laid s) ≡ s
unfolding seen laid
seen-laid-pair s f =
    let x = seen-laid_card s.p f.p in
    let y = seen-laid_card s.b f.b in
    let l = entries-padded used_message zero_message refl 58 s.link f.link f.link_room in
    let i = entries-padded used_message zero_message refl 128 s.inbox f.inbox f.inbox_room in
    λ k. record { p = x k; phase = s.phase; b = y k; role = s.role; detected = s.detected; limit = s.limit; count = s.count; link = l k; acks = s.acks; inbox = i k }

-- and its slots are tight
tight_card_lem : (c : Card) → FitsCard c → tight_card (laid_card c) ≡ true
unfolding tight_card laid_card
tight_card_lem c f = both (tight-laid_guest c.guest f.guest) (tight-padded used_interrupt zero_interrupt refl is_zero_interrupt refl 16 c.buffer f.buffer)

tight_pair_lem : (s : Pair) → Fits s → tight_pair (laid s) ≡ true
unfolding tight_pair laid
tight_pair_lem s f =
    both (both (both (tight_card_lem s.p f.p) (tight_card_lem s.b f.b))
    (tight-padded used_message zero_message refl is_zero_message refl 58 s.link f.link))
    (tight-padded used_message zero_message refl is_zero_message refl 128 s.inbox f.inbox)

-- ---- a pair in memory whose slots are tight is what it holds, laid out

laid-seen_card : (c : Card) → SizedCard c → tight_card c ≡ true → c ≡ laid_card (seen_card c)
unfolding tight_card laid_card seen_card
laid-seen_card c z h =
    let a = and_true (tight_guest c.guest) (tight used_interrupt is_zero_interrupt c.buffer) h in
    let g = laid-seen c.guest z.table z.queue a.0 in
    let i = tight-laid used_interrupt is_zero_interrupt zero_interrupt zero_interrupt_lem 16 c.buffer z.buffer a.1 in
    λ k. record { guest = g k; epoch = c.epoch; buffer = i k }

pub laid-seen-pair : (s : Pair) → Sized s → tight_pair s ≡ true → s ≡ laid (seen s)
unfolding tight_pair laid seen
laid-seen-pair s z h =
    let a = and_true (tight_card s.p && tight_card s.b && tight used_message is_zero_message s.link) (tight used_message is_zero_message s.inbox) h in
    let b = and_true (tight_card s.p && tight_card s.b) (tight used_message is_zero_message s.link) a.0 in
    let c = and_true (tight_card s.p) (tight_card s.b) b.0 in
    let x = laid-seen_card s.p z.p c.0 in
    let y = laid-seen_card s.b z.b c.1 in
    let l = tight-laid used_message is_zero_message zero_message zero_message_lem 58 s.link z.link b.1 in
    let i = tight-laid used_message is_zero_message zero_message zero_message_lem 128 s.inbox z.inbox a.1 in
    λ k. record { p = x k; phase = s.phase; b = y k; role = s.role; detected = s.detected; limit = s.limit; count = s.count; link = l k; acks = s.acks; inbox = i k }

-- ---- a sound pair fits

message_used : (m : Message) → sound_message m ≡ true → used_message m ≡ true
unfolding sound_message
message_used m h =
    is_used m.kind λ z.
    let a = (and_true (leb 1 m.epoch.0) _ h).1 in
    let b : eqb m.status 0 && eqb m.op.0 0 && (eqb m.kind 1 || eqb m.kind 3 || (eqb m.kind 4 && eqb m.word 0)) ≡ true = sym (pick-false (proper (interrupt_of m)) _ (ne_eqb m.kind 2 (λ q. omega arith))) ∙ a in
    let c = (and_true (eqb m.status 0 && eqb m.op.0 0) (eqb m.kind 1 || eqb m.kind 3 || (eqb m.kind 4 && eqb m.word 0)) b).1 in
    clash c (rw z)

card_fits : (n l : ℕ) (c : Card) → WholeGuest n l c.guest → WholeBuffer c → FitsCard c
card_fits n l c w b =
    record {
      guest = fits_whole n l c.guest w;
      buffer = all-every used_interrupt c.buffer (all_map (λ (i : Interrupt). proper i ≡ true) (λ (i : Interrupt). used_interrupt i ≡ true) proper_used c.buffer b.proper);
      room = buffered c w.sixteen b;
    }

messages_used : (ms : List Message) → All (λ m. sound_message m ≡ true) ms → every used_message ms ≡ true
messages_used ms a = all-every used_message ms (all_map (λ (m : Message). sound_message m ≡ true) (λ (m : Message). used_message m ≡ true) message_used ms a)

pub whole-fits : (s : Pair) → Whole s → Fits s
whole-fits s w =
    let k = at-most_58 s w.first.forty (buffered s.p w.first.sixteen w.first_buffer) w.wires in
    record {
      p = card_fits s.count s.limit s.p w.first w.first_buffer;
      b = card_fits s.count s.limit s.b w.second w.second_buffer;
      link = messages_used s.link w.wires.on_link;
      link_room = omega arith;
      inbox = messages_used s.inbox w.wires.in_inbox;
      inbox_room = w.wires.room;
    }

-- a fresh pair fits, whatever the program
pub fresh-fits : (S : Setup) → Fits (fresh_pair S)
unfolding fresh_pair fresh any
fresh-fits S = record { p = empty (record { 0 = 1 }); b = empty (record { 0 = 0 }); link = every-nil used_message; link_room = zero-le; inbox = every-nil used_message; inbox_room = zero-le }
  where
    empty : (e : EpochNo) → FitsCard (record { guest = fresh; epoch = e; buffer = [] })
    empty e = record { guest = record { table = every-nil used_op; queue = every-nil used_interrupt; room = zero-le }; buffer = every-nil used_interrupt; room = zero-le }

-- ---- sound in memory

pub sound-laid-pair : (s : Pair) → Whole s → sound_pair (laid s) ≡ true
unfolding sound_pair
sound-laid-pair s w = let f = whole-fits s w in both (tight_pair_lem s f) (ap sound (seen-laid-pair s f) ∙ whole-sound s w)

pub sound-seen-pair : (s : Pair) → sound_pair s ≡ true → Whole (seen s)
unfolding sound_pair
sound-seen-pair s h = whole (seen s) (and_true (tight_pair s) (sound (seen s)) h).1

pub sound-tight : (s : Pair) → sound_pair s ≡ true → tight_pair s ≡ true
unfolding sound_pair
sound-tight s h = (and_true (tight_pair s) (sound (seen s)) h).0

-- what a taken event leaves in memory
pub if_stored {κ ι} : (Q : Pair → Option RecordEntry → Type κ) (R : Pair → Option RecordEntry → Type ι) → ((s : Pair) (o : Option RecordEntry) → Q s o → R (laid s) o) → (v : Verdict) → IfTaken Q v → IfTaken R (stored v)
unfolding stored
if_stored Q R f (refused why) a = tt
if_stored Q R f (taken s o) a = f s o a

-- one event on a pair in memory, by what it does to the pair that is seen
pub if_apply {κ} : (Q : Pair → Option RecordEntry → Type κ) (code : List ℕ) (s : Pair) (ev : Event) → (malformed ev ≡ false → Whole (seen s) → IfTaken Q (stored (handle (setup_of code (seen s)) (seen s) ev))) → IfTaken Q (apply code s ev)
unfolding apply in_front setup_of seen
if_apply Q code s ev f =
    unless Q (malformed ev) Malformed _ λ m.
    unless Q (not (sound_pair s)) Unsound _ λ n.
    unless Q (not (eqb (length code) (4 * s.count))) BadProgram _ λ _.
    f m (sound-seen-pair s (not-false (sound_pair s) n))

-- on a pair that fits, laid out, an event does what it does to the model
stored-front : (b : Bool) (code : List ℕ) (s : Pair) (ev : Event) (v : Verdict) → in_front b code s ev (stored v) ≡ stored (in_front b code s ev v)
unfolding in_front refuse stored
stored-front b code s ev v = go (malformed ev) (not b) (not (eqb (length code) (4 * s.count)))
  where
    go : (x y z : Bool) → refuse x Malformed (refuse y Unsound (refuse z BadProgram (stored v))) ≡ stored (refuse x Malformed (refuse y Unsound (refuse z BadProgram v)))
    go true y z = refl
    go false true z = refl
    go false false true = refl
    go false false false = refl

pub apply-laid : (code : List ℕ) (s : Pair) (ev : Event) → Fits s → apply code (laid s) ev ≡ stored (step code s ev)
unfolding apply sound_pair step setup_of in_front laid
apply-laid code s ev f =
    ap (λ (b : Bool). in_front (b && sound (seen (laid s))) code s ev (stored (handle (setup_of code s) (seen (laid s)) ev))) (tight_pair_lem s f)
    ∙ ap (λ (t : Pair). in_front (sound t) code s ev (stored (handle (setup_of code s) t ev))) (seen-laid-pair s f)
    ∙ stored-front (sound s) code s ev (handle (setup_of code s) s ev)
