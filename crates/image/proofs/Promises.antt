-- What is promised of stored pairs, proved.
use mathlib.Core.Bool.{Bool, false, not, true}
use mathlib.Core.List.{List, [], ◌++◌, append-nil}
use mathlib.Core.Path.{◌≡◌, refl, sym, ap, subst, ◌∙◌}
use Prim.Native.Nat.{◌+◌, ◌-◌, ◌≤◌, ℕ}
use native.Mathlib.Omega.{arith}
use borrow.Author.Tests.{eqb-true, ltb-false, not-false}
use lib.Dec.{eqb, ltb}
use lib.ListN.{drop, drop_of_length-le, length, length-append, length-drop, take}
use lib.Seq.{drop_at, take_at}
use Rattle.slots.proofs.Padded.{length-padded}
use Rattle.slots.proofs.Tests.{and_true, both}
use Rattle.forms.specs.Lent.{refusing, where_taken}
use Rattle.layout.proofs.Image.{image_at-bytes, image_at_sized, image_bytes-at, image_bytes-fine, image_bytes-length}
use Rattle.layout.specs.Image.{GuestSized, PairSized, image_at, image_bytes, image_fine, image_length, sound_image}
use Rattle.outcomes.specs.Made.{done}
use Rattle.rules.proofs.Answers.{is-refused, taken-zero, zero-taken}
use Rattle.rules.proofs.PairKept.{pair-kept}
use Rattle.rules.proofs.PairSlots.{sound-laid-pair}
use Rattle.rules.proofs.PairWhole.{whole_fresh}
use Rattle.rules.specs.Events.{Verdict, refuse, refused, set_up, taken}
use Rattle.rules.specs.Guest.{fresh}
use Rattle.rules.specs.GuestSlots.{laid_guest, zero_interrupt, zero_op}
use Rattle.rules.specs.Pair.{fresh_pair}
use Rattle.rules.specs.PairKept.{Sized}
use Rattle.rules.specs.PairSlots.{laid, laid_card, made, outcome, sound_pair, stored, zero_message, zero_pair}
use Rattle.rules.specs.Program.{Setup, good, under}
use Rattle.rules.specs.declared.Outcome.{Outcome}
use Rattle.rules.specs.declared.Pair.{Pair}
use Rattle.rules.specs.declared.Refusal.{Refusal}
use Rattle.rules.specs.declared.Refusal.TheVariants.{BadFile, BadProgram, TooShort, Unsound}
use Rattle.image.specs.Promises.{Accepted, Forgets, LoadOfSaved, RefusedSave, SavedOfLoad}
use Rattle.image.specs.Stores.{Retired, Saved, loaded, retire_answer, retire_leaves, room, save_answer, save_leaves, zeros}
use Rattle.image.proofs.Stores.{length-zeros, loaded-taken, refused-taken}
use Rattle.rules.specs.Answer.{Answer}
use Rattle.std.specs.Prelude.{None, Ok, Err}

-- ---- what an answer 0 tells

refusing-taken : (t : Bool) (why : Refusal) (a : Answer) → refusing t why a ≡ Ok tt → (t ≡ false) × (a ≡ Ok tt)
unfolding refusing
refusing-taken true why a e = refused-taken e
refusing-taken false why a e = (refl, e)

refuse-taken : (s : Pair) (t : Bool) (why : Refusal) (v : Verdict) → (outcome s (refuse t why v)).answer ≡ Ok tt → (t ≡ false) × ((outcome s v).answer ≡ Ok tt)
unfolding refuse outcome
refuse-taken s true why v e = refused-taken e
refuse-taken s false why v e = (refl, e)

room-taken : (n : ℕ) → room n ≡ Ok tt → image_length ≤ n
unfolding room
room-taken n e = ltb-false n image_length (refusing-taken (ltb n image_length) TooShort (Ok tt) e).0

-- ---- save and load

-- what a save that is taken leaves
module _ (s : Pair) (buf e : List ℕ) (w : Saved s buf (Ok tt) e) where
  saved_sound : sound_pair s ≡ true
  unfolding save_answer
  saved_sound = not-false (sound_pair s) (refusing-taken (not (sound_pair s)) Unsound (room (length buf)) (sym w.answer)).0

  saved_bytes : e ≡ image_bytes s ++ drop image_length buf
  unfolding save_leaves where_taken
  saved_bytes = w.leaves ∙ ap (λ (a : Answer). where_taken a (image_bytes s ++ drop image_length buf) buf) (sym w.answer)

loaded_bytes : (s : Pair) → PairSized s → sound_pair s ≡ true → loaded (image_bytes s) ≡ done s None
loaded_bytes s z h =
    let back = image_at-bytes s z in
    sym (loaded-taken (image_bytes s) (image_bytes-length s z) (ap not (both (image_bytes-fine s z) (ap sound_pair back ∙ h)))) ∙ ap (λ (t : Pair). done t None) back

pub load_of_saved : LoadOfSaved
load_of_saved s buf r e z v q =
    let w : Saved s buf (Ok tt) e = rw (zero-taken r q) at v in
    let same : take image_length e ≡ image_bytes s = ap (take image_length) (saved_bytes s buf e w) ∙ take_at (image_bytes s) (drop image_length buf) image_length (image_bytes-length s z) in
    let is : loaded (take image_length e) ≡ done s None = ap loaded same ∙ loaded_bytes s z (saved_sound s buf e w) in
    (taken-zero (ap (λ (o : Outcome). o.answer) is), ap (λ (o : Outcome). o.pair) is)

-- what an image that is taken is
module _ (b : List ℕ) (q : (loaded b).answer ≡ Ok tt) where
  abbrev Is : Type 0
  Is = (length b ≡ image_length) × (image_fine b ≡ true) × (sound_pair (image_at b) ≡ true)

  taken_is : Is
  unfolding loaded sound_image
  taken_is =
      let x = refuse-taken zero_pair (not (eqb (length b) image_length)) BadFile (refuse (not (sound_image b)) Unsound (taken (image_at b) None)) q in
      let y = refuse-taken zero_pair (not (sound_image b)) Unsound (taken (image_at b) None) x.1 in
      let h = and_true (image_fine b) (sound_pair (image_at b)) (not-false (sound_image b) y.0) in
      (eqb-true (length b) image_length (not-false (eqb (length b) image_length) x.0), h.0, h.1)

  taken-pair : (loaded b).pair ≡ image_at b
  taken-pair = let i = taken_is in ap (λ (o : Outcome). o.pair) (sym (loaded-taken b i.0 (ap not (both i.1 i.2))))

pub saved_of_load : SavedOfLoad
unfolding save_answer refusing room
saved_of_load b buf r e bytes z l w =
    let q = zero-taken (loaded b).answer z in
    let i = taken_is b q in
    let p = taken-pair b q in
    let snd : sound_pair (loaded b).pair ≡ true = ap sound_pair p ∙ i.2 in
    let yes : r ≡ (Ok tt) = w.answer ∙ rw (snd, l) in
    let written = saved_bytes (loaded b).pair buf e (rw yes at w) in
    let none : drop image_length buf ≡ [] = drop_of_length-le buf {i = image_length} (omega arith) in
    (taken-zero yes, written ∙ ap (λ (t : List ℕ). image_bytes (loaded b).pair ++ t) none ∙ append-nil (image_bytes (loaded b).pair) ∙ ap image_bytes p ∙ image_bytes-at b bytes i.0 i.1)

-- the lengths that soundness asks for
in_memory_lem : (s : Pair) → PairSized s → Sized s
in_memory_lem s z = record {
  p = record { table = z.p.table; queue = z.p.queue; buffer = z.buffer };
  b = record { table = z.b.table; queue = z.b.queue; buffer = z.own };
  link = z.link;
  inbox = z.inbox;
}

-- a refusal leaves the pair
refused-leaves : (s : Pair) (v : Verdict) {why : Refusal} → (outcome s v).answer ≡ Err why → (outcome s v).pair ≡ s
unfolding outcome
refused-leaves s (refused why) q = refl
refused-leaves s (taken t o) q = refused-taken (sym q)

pub accepted : Accepted
unfolding loaded
accepted = record {
  sound = λ b z. let q = zero-taken (loaded b).answer z in ap sound_pair (taken-pair b q) ∙ (taken_is b q).2;
  zero_slots = λ b z. let q = zero-taken (loaded b).answer z in rw (taken-pair b q) (sym (pair-kept.slots (image_at b) (in_memory_lem (image_at b) (image_at_sized b)) (taken_is b q).2));
  nothing = λ b q. refused-leaves zero_pair _ (is-refused (loaded b).answer q).1;
}

pub refused-save : RefusedSave
unfolding save_leaves where_taken
refused-save s buf r e w q = w.leaves ∙ ap (λ (a : Answer). where_taken a (image_bytes s ++ drop image_length buf) buf) (sym w.answer ∙ (is-refused r q).1)

-- ---- retire

-- what a fresh pair is in memory
guest_sized : GuestSized (laid_guest fresh)
unfolding laid_guest fresh
guest_sized = record { regs = refl; mem = refl; table = length-padded zero_op 16 []; queue = length-padded zero_interrupt 17 [] }

module _ (S : Setup) (g : good S ≡ true) where
  pub made_pair : (made S).pair ≡ laid (fresh_pair S)
  unfolding made set_up refuse stored outcome
  made_pair = rw g

  made_sized : PairSized (made S).pair
  unfolding laid laid_card fresh_pair
  made_sized = subst PairSized (sym made_pair) (record {
    p = guest_sized;
    b = guest_sized;
    buffer = length-padded zero_interrupt 16 [];
    own = length-padded zero_interrupt 16 [];
    link = length-padded zero_message 58 [];
    inbox = length-padded zero_message 128 [];
  })

  made-sound : sound_pair (made S).pair ≡ true
  made-sound = ap sound_pair made_pair ∙ sound-laid-pair (fresh_pair S) (whole_fresh S g)

-- what a retiring that is taken leaves
module _ (code : List ℕ) (l : ℕ) (store e : List ℕ) (w : Retired code l store (Ok tt) e) where
  abbrev S : Setup
  S = under code l

  retired_good : good S ≡ true
  unfolding retire_answer
  retired_good = not-false (good S) (refusing-taken (not (good S)) BadProgram (room (length store)) (sym w.answer)).0

  retired_room : image_length ≤ length store
  unfolding retire_answer
  retired_room = room-taken (length store) (refusing-taken (not (good S)) BadProgram (room (length store)) (sym w.answer)).1

  retired_bytes : e ≡ image_bytes (made S).pair ++ zeros (length store - image_length)
  unfolding retire_leaves where_taken
  retired_bytes = w.leaves ∙ ap (λ (a : Answer). where_taken a (image_bytes (made S).pair ++ zeros (length store - image_length)) (zeros (length store))) (sym w.answer)

  image_length_lem : length (image_bytes (made S).pair) ≡ image_length
  image_length_lem = image_bytes-length (made S).pair (made_sized S retired_good)

  retired_fresh : loaded (take image_length e) ≡ done (made S).pair None
  retired_fresh =
      ap (λ (b : List ℕ). loaded (take image_length b)) retired_bytes
      ∙ ap loaded (take_at (image_bytes (made S).pair) (zeros (length store - image_length)) image_length image_length_lem)
      ∙ loaded_bytes (made S).pair (made_sized S retired_good) (made-sound S retired_good)

  retired_rest : drop image_length e ≡ zeros (length (drop image_length store))
  retired_rest =
      ap (drop image_length) retired_bytes
      ∙ drop_at (image_bytes (made S).pair) (zeros (length store - image_length)) image_length image_length_lem
      ∙ ap zeros (sym (length-drop image_length store))

  retired_length : length e ≡ length store
  retired_length =
      ap length retired_bytes ∙ length-append (image_bytes (made S).pair) (zeros (length store - image_length))
      ∙ (λ i. image_length_lem i + length-zeros (length store - image_length) i) ∙ omega (arith, retired_room)

module _ (code : List ℕ) (l : ℕ) (store e : List ℕ) {why : Refusal} (w : Retired code l store (Err why) e) where
  retired_zeros : e ≡ zeros (length store)
  unfolding retire_leaves where_taken
  retired_zeros = w.leaves ∙ ap (λ (a : Answer). where_taken a (image_bytes (made (under code l)).pair ++ zeros (length store - image_length)) (zeros (length store))) (sym w.answer)

pub forgets : Forgets
forgets = record {
  same = λ code l store other r r' e e' n p q. (p.answer ∙ ap (retire_answer (under code l)) n ∙ sym q.answer, p.leaves ∙ ap (retire_leaves (under code l)) n ∙ sym q.leaves);
  refused = λ code l store r e w q. retired_zeros code l store e (rw (is-refused r q).1 at w);
  fresh = λ code l store r e w q.
      let is = retired_fresh code l store e (rw (zero-taken r q) at w) in
      (taken-zero (ap (λ (o : Outcome). o.answer) is), ap (λ (o : Outcome). o.pair) is);
  rest = λ code l store r e w q. retired_rest code l store e (rw (zero-taken r q) at w);
  keeps_length = by_answer;
}
  where
    by_answer : (code : List ℕ) (l : ℕ) (store : List ℕ) (r : Answer) (e : List ℕ) → Retired code l store r e → length e ≡ length store
    by_answer code l store (Ok tt) e w = retired_length code l store e w
    by_answer code l store (Err why) e w = ap length (retired_zeros code l store e w) ∙ length-zeros (length store)
