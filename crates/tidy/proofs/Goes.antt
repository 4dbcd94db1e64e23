-- From the arrays of a sound pair to the next pair, laid out.
use mathlib.Core.Bool.{Bool, ◌&&◌, ◌||◌, false, not, true}
use mathlib.Core.List.{List, [], ◌++◌, ◌∷◌, append-nil}
use mathlib.Core.Path.{◌∙◌, ◌≡◌, ap, refl, sym}
use Prim.Native.Nat.{◌<◌, ℕ}
use lib.ListN.{length, length-append, set}
use native.Mathlib.Omega.{arith}
use Rattle.rules.proofs.GuestSlots.{FitsGuest}
use Rattle.rules.proofs.PairKept.{pair-kept}
use Rattle.rules.proofs.PairSlots.{Fits, whole-fits}
use Rattle.rules.proofs.PairWhole.{whole}
use Rattle.rules.specs.Events.{Verdict, handle, malformed, refused, taken}
use Rattle.rules.specs.Guest.{listed, ops_of}
use Rattle.rules.specs.GuestSlots.{laid_guest, seen_guest, used_interrupt, used_op, zero_interrupt}
use Rattle.rules.specs.Pair.{awaited, on_b, on_p, setup_of}
use Rattle.rules.specs.PairSlots.{laid, laid_card, outcome, seen, seen_card, stored, used_message, zero_message}
use Rattle.rules.specs.declared.Card.{Card}
use Rattle.rules.specs.declared.Event.{Event}
use Rattle.rules.specs.declared.Interrupt.{Interrupt}
use Rattle.rules.specs.declared.Message.{Message}
use Rattle.rules.specs.declared.OpNo.{OpNo}
use Rattle.rules.specs.declared.Pair.{Pair}
use Rattle.rules.specs.declared.Phase.{Phase}
use Rattle.rules.specs.declared.Refusal.{Refusal}
use Rattle.rules.specs.declared.Role.{Role}
use Rattle.slots.proofs.Padded.{padded_push}
use Rattle.slots.specs.Slots.{entries, padded, pushed}
use Rattle.outcomes.specs.Made.{done}
use Rattle.tidy.specs.Tidy.{Tidy, does}
use Rattle.rules.specs.declared.RecordEntry.{RecordEntry}
use Rattle.std.specs.Prelude.{Option}

module _ (s : Pair) (t : Tidy s) where
  -- each list is what it holds, laid out
  link-again : s.link ≡ padded 58 zero_message (entries used_message s.link)
  unfolding laid seen
  link-again = ap (λ (u : Pair). u.link) t.again

  inbox-again : s.inbox ≡ padded 128 zero_message (entries used_message s.inbox)
  unfolding laid seen
  inbox-again = ap (λ (u : Pair). u.inbox) t.again

  pub p-again : s.p ≡ laid_card (seen_card s.p)
  unfolding laid seen
  p-again = ap (λ (u : Pair). u.p) t.again

  pub b-again : s.b ≡ laid_card (seen_card s.b)
  unfolding laid seen
  b-again = ap (λ (u : Pair). u.b) t.again

  -- one more on the link, or nothing; one more in the inbox
  pub link_more : (m : Message) → length (entries used_message s.link) < 58 → pushed used_message s.link m ≡ padded 58 zero_message (entries used_message s.link ++ (m ∷ []))
  link_more m h =
      ap (λ (l : List Message). set l (length (entries used_message s.link)) m) link-again ∙ padded_push zero_message 58 (entries used_message s.link) m h

  pub link-same : s.link ≡ padded 58 zero_message (entries used_message s.link ++ [])
  link-same = link-again ∙ ap (padded 58 zero_message) (sym (append-nil (entries used_message s.link)))

  pub inbox_more : (m : Message) → length (entries used_message s.inbox) < 128 → pushed used_message s.inbox m ≡ padded 128 zero_message (entries used_message s.inbox ++ (m ∷ []))
  inbox_more m h =
      ap (λ (l : List Message). set l (length (entries used_message s.inbox)) m) inbox-again ∙ padded_push zero_message 128 (entries used_message s.inbox) m h

  pub inbox-same : s.inbox ≡ padded 128 zero_message (entries used_message s.inbox)
  inbox-same = inbox-again

  -- another first card and phase, and messages sent
  pub goes-p : (c' c : Card) (f : Phase) (ms k : List Message) → c' ≡ laid_card c → k ≡ padded 58 zero_message (entries used_message s.link ++ ms)
      → record { p = c'; phase = f; b = s.b; role = s.role; detected = s.detected; limit = s.limit; count = s.count; link = k; acks = s.acks; inbox = s.inbox } ≡ laid (on_p (seen s) c f ms)
  unfolding laid on_p seen
  goes-p c' c f ms k e l =
      λ i. record { p = e i; phase = f; b = b-again i; role = s.role; detected = s.detected; limit = s.limit; count = s.count; link = l i; acks = s.acks; inbox = inbox-again i }

  -- another second card and role, and what is left of the inbox
  pub goes-b : (c' c : Card) (o : Role) (ms k : List Message) → c' ≡ laid_card c → k ≡ padded 128 zero_message ms
      → record { p = s.p; phase = s.phase; b = c'; role = o; detected = s.detected; limit = s.limit; count = s.count; link = s.link; acks = s.acks; inbox = k } ≡ laid (on_b (seen s) c o ms)
  unfolding laid on_b seen
  goes-b c' c o ms k e l =
      λ i. record { p = p-again i; phase = s.phase; b = e i; role = o; detected = s.detected; limit = s.limit; count = s.count; link = link-again i; acks = s.acks; inbox = l i }

  -- the next pair fits its slots
  pub next_fits : (code : List ℕ) (ev : Event) (n : Pair) (o : Option RecordEntry) → malformed ev ≡ false → handle (setup_of code s) (seen s) ev ≡ taken n o → Fits n
  unfolding setup_of seen
  next_fits code ev n o m e = whole-fits n (whole n (pair-kept.handled code (seen s) ev n o t.whole m e))

  -- so there is room for what was added
  pub room-link : (n : Pair) (m : Message) → Fits n → n.link ≡ entries used_message s.link ++ (m ∷ []) → length (entries used_message s.link) < 58
  room-link n m f e =
      let a = f.link_room in
      let b = ap length e in
      let c = length-append (entries used_message s.link) (m ∷ []) in
      omega arith

  pub room-inbox : (n : Pair) (m : Message) → Fits n → n.inbox ≡ entries used_message s.inbox ++ (m ∷ []) → length (entries used_message s.inbox) < 128
  room-inbox n m f e =
      let a = f.inbox_room in
      let b = ap length e in
      let c = length-append (entries used_message s.inbox) (m ∷ []) in
      omega arith

-- an event that is taken, from the rule's verdict and the next pair in memory
pub does-taken : (code : List ℕ) (s : Pair) (ev : Event) (n : Pair) (o : Option RecordEntry) (q : Pair) → handle (setup_of code s) (seen s) ev ≡ taken n o → q ≡ laid n → done q o ≡ does code s ev
unfolding stored outcome
does-taken code s ev n o q e h = ap (λ (u : Pair). done u o) h ∙ sym (ap (λ (v : Verdict). outcome s (stored v)) e)

-- one that is refused
pub does-refused : (code : List ℕ) (s : Pair) (ev : Event) (why : Refusal) → handle (setup_of code s) (seen s) ev ≡ refused why → outcome s (refused why) ≡ does code s ev
unfolding stored
does-refused code s ev why e = sym (ap (λ (v : Verdict). outcome s (stored v)) e)

-- a card's buffer with one more
module _ (c : Card) (again : c ≡ laid_card (seen_card c)) where
  pub buffer_more : (i : Interrupt) → length (entries used_interrupt c.buffer) < 16 → pushed used_interrupt c.buffer i ≡ padded 16 zero_interrupt (entries used_interrupt c.buffer ++ (i ∷ []))
  unfolding laid_card seen_card
  buffer_more i h =
      ap (λ (l : List Interrupt). set l (length (entries used_interrupt c.buffer)) i) (ap (λ (d : Card). d.buffer) again) ∙ padded_push zero_interrupt 16 (entries used_interrupt c.buffer) i h

  pub guest-again : c.guest ≡ laid_guest (seen_guest c.guest)
  unfolding laid_card seen_card
  guest-again = ap (λ (d : Card). d.guest) again

  pub buffer-again : c.buffer ≡ padded 16 zero_interrupt (entries used_interrupt c.buffer)
  unfolding laid_card seen_card
  buffer-again = ap (λ (d : Card). d.buffer) again

-- the guests of a sound pair fit their slots
module _ (s : Pair) (t : Tidy s) where
  pub p-fits : FitsGuest (seen_guest s.p.guest)
  unfolding seen seen_card
  p-fits = (whole-fits (seen s) (whole (seen s) t.whole)).p.guest

  pub b-fits : FitsGuest (seen_guest s.b.guest)
  unfolding seen seen_card
  b-fits = (whole-fits (seen s) (whole (seen s) t.whole)).b.guest

-- whether an operation is awaited, by the two searches in slots: "not in P's table or already buffered"
pub awaited_is : (c : Card) (n : OpNo) → not (awaited (seen_card c) n) ≡ not (listed n (entries used_op c.guest.table)) || listed n (ops_of (entries used_interrupt c.buffer))
unfolding awaited seen_card seen_guest
awaited_is c n = go (listed n (entries used_op c.guest.table)) (listed n (ops_of (entries used_interrupt c.buffer)))
  where
    go : (a b : Bool) → not (a && not b) ≡ not a || b
    go true true = refl
    go true false = refl
    go false b = refl
