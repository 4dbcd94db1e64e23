-- Each way out is the one that the definitions say.
use mathlib.Core.Bool.{Bool, false, not, true, ◌&&◌, false≢true}
use Rattle.std.specs.Option.{is_some}
use mathlib.Core.List.{List, append-nil}
use mathlib.Core.Path.{◌≡◌, refl, sym, ap, ◌∙◌}
use Prim.Native.Nat.{ℕ, ◌<◌, ◌≤◌}
use native.Mathlib.Omega.{arith}
use borrow.Author.Tests.{eq-eqb, eqb-true, le-ltb, lt-ltb, ne_eqb, not-false}
use lib.Dec.{eqb, ltb}
use lib.ListN.{drop_of_length-le, length}
use Rattle.words.specs.Wrote.{Wrote}
use Rattle.forms.specs.Lent.{where_taken}
use Rattle.layout.specs.Image.{image_at, image_bytes, image_fine, image_length, sound_image}
use Rattle.rules.proofs.Answers.{taken-zero}
use Rattle.rules.specs.Bytes.{apply_read, read_event}
use Rattle.rules.specs.Events.{Verdict, in_front, refuse, refused, taken}
use Rattle.rules.specs.PairSlots.{answer_number, apply, outcome, sound_pair}
use Rattle.rules.specs.declared.Outcome.{Outcome}
use Rattle.rules.specs.declared.Pair.{Pair}
use Rattle.rules.specs.declared.RecordEntry.{RecordEntry}
use Rattle.rules.specs.declared.Refusal.{Refusal}
use Rattle.rules.specs.declared.Refusal.TheVariants.{BadFile, Malformed, TooShort, Unsound}
use Rattle.image.proofs.Promises.{accepted}
use Rattle.image.proofs.Stores.{room_enough as room_fits, saved}
use Rattle.image.specs.Stores.{Fitted, Saved, loaded, save_answer, save_leaves}
use Rattle.firmware.specs.Firmware.{SavedFrom, Stepped, answer_of, applied, entry_after, entry_bytes, entry_length, entry_of, ill_formed, in_room, no_room, store_after}
use Rattle.rules.specs.declared.Event.{Event}
use Rattle.rules.specs.Answer.{Answer}
use Rattle.std.specs.Prelude.{Some, None, Option, Ok, Err}

-- ---- a verdict and its outcome

pub verdict_taken : (s : Pair) (v : Verdict) → (outcome s v).answer ≡ Ok tt → v ≡ taken (outcome s v).pair (outcome s v).shown
unfolding outcome
verdict_taken s (refused why) e = cc
verdict_taken s (taken t o) e = refl

pub verdict_refused : (s : Pair) (v : Verdict) {why : Refusal} → (outcome s v).answer ≡ Err why → v ≡ refused why
unfolding outcome
verdict_refused s (refused why) e = cc
verdict_refused s (taken t o) e = cc

-- what is taken passed the test in front
passed : (t : Bool) (why : Refusal) (v : Verdict) {s : Pair} {o : Option RecordEntry} → refuse t why v ≡ taken s o → (t ≡ false) × (v ≡ taken s o)
unfolding refuse
passed true why v e = (cc, cc)
passed false why v e = (refl, e)

-- ---- the entry's room

-- an entry is shown and has no room
pub room-short : (n : ℕ) (s : Pair) (v : Verdict) → is_some (outcome s v).shown && ltb n entry_length ≡ true → outcome s (refused TooShort) ≡ outcome s (in_room n v)
unfolding in_room no_room outcome refuse
room-short n s (refused why) e = absurd (false≢true e)
room-short n s (taken t None) e = absurd (false≢true e)
room-short n s (taken t (Some x)) e = rw e

-- none is shown, or there is room
pub room-any : (n : ℕ) (s : Pair) (v : Verdict) → is_some (outcome s v).shown && ltb n entry_length ≡ false → outcome s v ≡ outcome s (in_room n v)
unfolding in_room no_room outcome refuse
room-any n s (refused why) e = refl
room-any n s (taken t None) e = refl
room-any n s (taken t (Some x)) e = rw e

pub room_enough : (n : ℕ) (v : Verdict) → entry_length ≤ n → v ≡ in_room n v
unfolding in_room no_room refuse
room_enough n (refused why) h = refl
room_enough n (taken t None) h = refl
room_enough n (taken t (Some y)) h = rw (le-ltb n entry_length h)

-- ---- the tests in front

-- a well formed event on an unsound pair
unsound-refused : (code : List ℕ) (s : Pair) (r : Option Event) → ill_formed r ≡ false → sound_pair s ≡ false → apply_read code s r ≡ refused Unsound
unfolding apply_read apply in_front ill_formed refuse
unsound-refused code s None f u = cc
unsound-refused code s (Some ev) f u = rw (f, u)

module _ (code store event : List ℕ) (n : ℕ) where
  pub front-form : ill_formed (read_event event) ≡ true → refused Malformed ≡ applied code store event n
  unfolding applied refuse
  front-form f = rw f

  module _ (f : ill_formed (read_event event) ≡ false) where
    pub front_length : (length store ≡ image_length → ⊥) → refused BadFile ≡ applied code store event n
    unfolding applied refuse
    front_length l = rw (f, ne_eqb (length store) image_length l)

    module _ (l : length store ≡ image_length) where
      pub front-fine : image_fine store ≡ false → refused Unsound ≡ applied code store event n
      unfolding applied refuse sound_image
      front-fine h = rw (f, eq-eqb (length store) image_length l, h)

      pub front_passed : image_fine store ≡ true → in_room n (apply_read code (image_at store) (read_event event)) ≡ applied code store event n
      unfolding applied in_room refuse sound_image
      front_passed h = go (sound_pair (image_at store)) refl
        where
          go : (b : Bool) → sound_pair (image_at store) ≡ b → in_room n (apply_read code (image_at store) (read_event event)) ≡ applied code store event n
          go true u = rw (f, eq-eqb (length store) image_length l, h, u)
          go false u = rw (unsound-refused code (image_at store) (read_event event) f u, f, eq-eqb (length store) image_length l, h, u)

  -- an event is taken only on a store that has the length of an image
  pub taken-length : {s : Pair} {o : Option RecordEntry} → applied code store event n ≡ taken s o → length store ≡ image_length
  unfolding applied
  taken-length e =
      let x = passed (ill_formed (read_event event)) Malformed _ e in
      let y = passed (not (eqb (length store) image_length)) BadFile _ x.1 in
      eqb-true (length store) image_length (not-false (eqb (length store) image_length) y.0)

-- ---- what is left

-- an image in the place of an image
pub over : (s : Pair) (store : List ℕ) {r : Answer} {e : List ℕ} → length store ≡ image_length → Fitted s store r e → e ≡ image_bytes s
unfolding where_taken
over s store l f =
    f.leaves
    ∙ rw (room_fits (length store) (omega arith), drop_of_length-le store {i = image_length} (omega arith)) (append-nil (image_bytes s))

module _ (code store event entry : List ℕ) {o : Outcome} (e : o ≡ outcome (image_at store) (applied code store event (length entry))) where
  pub step-taken : {a : Answer} {left shown : List ℕ} → o.answer ≡ Ok tt → Fitted o.pair store a left → Wrote entry 0 (entry_bytes (entry_of o.shown)) shown
      → Stepped code store event entry 0 left shown
  unfolding answer_of store_after entry_after
  step-taken t f w =
      let v : applied code store event (length entry) ≡ taken o.pair o.shown = rw e (verdict_taken (image_at store) (applied code store event (length entry)) (rw e at t)) in
      record {
        answer = sym (ap answer_of v);
        leaves = over o.pair store (taken-length code store event (length entry) v) f ∙ sym (ap (store_after store) v);
        shows = w.is ∙ sym (ap (entry_after entry) v);
      }

  pub step-refused : {r : ℕ} {why : Refusal} → o.answer ≡ Err why → r ≡ answer_number (Err why) → Stepped code store event entry r store entry
  unfolding answer_number answer_of store_after entry_after
  step-refused {why = why} t n =
      let v : applied code store event (length entry) ≡ refused why = verdict_refused (image_at store) (applied code store event (length entry)) (rw e at t) in
      record {
        answer = n ∙ sym (ap answer_of v);
        leaves = sym (ap (store_after store) v);
        shows = sym (ap (entry_after entry) v);
      }

module _ (store buf : List ℕ) {l : Outcome} (e : l ≡ loaded store) where
  pub save-taken : {a : Answer} {r : ℕ} {left : List ℕ} → l.answer ≡ Ok tt → Fitted l.pair buf a left → r ≡ answer_number a → SavedFrom store buf r left
  unfolding where_taken
  save-taken {a = a} {left = left} t f n =
      let u : sound_pair l.pair ≡ true = rw e (accepted.sound store (taken-zero (rw e at t))) in
      let s : Saved l.pair buf a left = saved l.pair buf (ap not u) f in
      record {
        answer = n ∙ ap answer_number s.answer ∙ (λ i. answer_number (where_taken (sym t i) (save_answer l.pair buf) l.answer)) ∙ ap (λ (u : Outcome). answer_number (where_taken u.answer (save_answer u.pair buf) u.answer)) e;
        leaves = s.leaves ∙ (λ i. where_taken (sym t i) (save_leaves l.pair buf) buf) ∙ ap (λ (u : Outcome). where_taken u.answer (save_leaves u.pair buf) buf) e;
      }

  pub save-refused : {why : Refusal} {r : ℕ} → l.answer ≡ Err why → r ≡ answer_number (Err why) → SavedFrom store buf r buf
  unfolding where_taken
  save-refused t n = record {
    answer = n ∙ (λ i. answer_number (where_taken (sym t i) (save_answer l.pair buf) (sym t i))) ∙ ap (λ (u : Outcome). answer_number (where_taken u.answer (save_answer u.pair buf) u.answer)) e;
    leaves = (λ i. where_taken (sym t i) (save_leaves l.pair buf) buf) ∙ ap (λ (u : Outcome). where_taken u.answer (save_leaves u.pair buf) buf) e;
  }
