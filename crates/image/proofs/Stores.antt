-- Each way out of save, load and retire is the one that the definitions say.
use mathlib.Core.Bool.{Bool, ◌&&◌, false, not, true}
use mathlib.Core.List.{List, ◌++◌}
use mathlib.Core.Path.{◌≡◌, refl, sym, ap, ◌∙◌}
use Prim.Native.Nat.{◌-◌, ◌<◌, ◌≤◌, ℕ, suc, zero}
use native.Mathlib.Nat.{sub-zero, suc-sub-suc, zero-sub}
use native.Mathlib.Omega.{arith}
use borrow.Author.Tests.{eq-eqb, le-ltb, lt-ltb, ne_eqb}
use lib.ListN.{drop, length, length-replicate}
use Rattle.forms.proofs.Lent.{at_the_front}
use Rattle.forms.specs.Lent.{refusing, where_taken}
use Rattle.layout.proofs.Image.{image_bytes-length}
use Rattle.layout.specs.Image.{PairSized, image_at, image_bytes, image_fine, image_length, sound_image}
use Rattle.rules.specs.Events.{refuse, refused, set_up}
use Rattle.rules.specs.PairSlots.{made, outcome, sound_pair, stored, zero_pair}
use Rattle.rules.specs.Program.{Setup, good, under}
use Rattle.rules.specs.declared.Pair.{Pair}
use Rattle.rules.specs.declared.Refusal.{Refusal}
use Rattle.rules.specs.declared.Refusal.TheVariants.{BadFile, BadProgram, TooShort, Unsound}
use Rattle.outcomes.specs.Made.{done}
use Rattle.words.specs.Wrote.{Wrote}
use Rattle.image.specs.Stores.{Fitted, Retired, Saved, loaded, retire_answer, retire_leaves, room, save_answer, save_leaves, zeros}
use Rattle.rules.specs.Answer.{Answer}
use Rattle.std.specs.Prelude.{None, Ok, Err}

pub room-short : (n : ℕ) → n < image_length → room n ≡ Err TooShort
unfolding room refusing
room-short n h = rw (lt-ltb n image_length h)

pub room_enough : (n : ℕ) → image_length ≤ n → room n ≡ Ok tt
unfolding room refusing
room_enough n h = rw (le-ltb n image_length h)

module _ (s : Pair) (buf : List ℕ) where
  pub fitted_short : length buf < image_length → Fitted s buf (Err TooShort) buf
  unfolding where_taken
  fitted_short h = record { answer = sym (room-short (length buf) h); leaves = rw (room-short (length buf) h) }

  pub fitted : {e : List ℕ} → PairSized s → image_length ≤ length buf → Wrote buf 0 (image_bytes s) e → Fitted s buf (Ok tt) e
  unfolding where_taken
  fitted z h w = record {
    answer = sym (room_enough (length buf) h);
    leaves = rw (room_enough (length buf) h) (at_the_front w image_length (image_bytes-length s z) h);
  }

  pub saved_unsound : not (sound_pair s) ≡ true → Saved s buf (Err Unsound) buf
  unfolding save_answer save_leaves refusing where_taken
  saved_unsound h = record { answer = rw h; leaves = rw h }

  pub saved : {r : Answer} {e : List ℕ} → not (sound_pair s) ≡ false → Fitted s buf r e → Saved s buf r e
  unfolding save_answer save_leaves refusing
  saved h f = record { answer = rw h f.answer; leaves = rw h f.leaves }

module _ (b : List ℕ) where
  pub loaded-length : (length b ≡ image_length → ⊥) → outcome zero_pair (refused BadFile) ≡ loaded b
  unfolding loaded refuse
  loaded-length h = rw (ne_eqb (length b) image_length h)

  pub loaded-unsound : length b ≡ image_length → not (image_fine b && sound_pair (image_at b)) ≡ true → outcome zero_pair (refused Unsound) ≡ loaded b
  unfolding loaded refuse sound_image
  loaded-unsound h t = rw (eq-eqb (length b) image_length h, t)

  pub loaded-taken : length b ≡ image_length → not (image_fine b && sound_pair (image_at b)) ≡ false → done (image_at b) None ≡ loaded b
  unfolding loaded refuse sound_image outcome
  loaded-taken h t = rw (eq-eqb (length b) image_length h, t)

-- ---- retire

drop-zeros : (k n : ℕ) → drop k (zeros n) ≡ zeros (n - k)
unfolding zeros
drop-zeros zero n = rw sub-zero
drop-zeros (suc k) zero = rw zero-sub
drop-zeros (suc k) (suc n) = rw suc-sub-suc (drop-zeros k n)

pub length-zeros : (n : ℕ) → length (zeros n) ≡ n
unfolding zeros
length-zeros n = length-replicate n 0

pub refused-taken : {A : Type 0} {why : Refusal} → ◌≡◌ {A = Answer} (Err why) (Ok tt) → A
unfolding where_taken
refused-taken e = absurd (let z : ◌≡◌ {A = ℕ} 0 1 = ap (λ (a : Answer). where_taken a 1 0) e in omega arith)

set_up-answer : (S : Setup) → (made S).answer ≡ refusing (not (good S)) BadProgram (Ok tt)
unfolding made set_up refuse stored outcome refusing
set_up-answer S = go (good S) refl
  where
    go : (b : Bool) → good S ≡ b → (made S).answer ≡ refusing (not (good S)) BadProgram (Ok tt)
    go true h = rw h
    go false h = rw h

-- the image of s at the front of n zeros
fit-zeros : (s : Pair) (n : ℕ) {z : List ℕ} → z ≡ zeros n → where_taken (room (length z)) (image_bytes s ++ drop image_length z) z ≡ where_taken (room n) (image_bytes s ++ zeros (n - image_length)) (zeros n)
fit-zeros s n wiped =
    ap (λ (t : List ℕ). where_taken (room (length t)) (image_bytes s ++ drop image_length t) t) wiped
    ∙ (λ i. where_taken (room (length-zeros n i)) (image_bytes s ++ drop-zeros image_length n i) (zeros n))

module _ (code : List ℕ) (l : ℕ) (store : List ℕ) {z : List ℕ} (wiped : z ≡ zeros (length store)) where
  -- set-up refuses: the store stays wiped
  pub retired_bad : {why : Refusal} → (made (under code l)).answer ≡ Err why → Retired code l store (Err why) z
  unfolding refusing retire_answer retire_leaves where_taken
  retired_bad {why} q = go (good (under code l)) refl (sym q ∙ set_up-answer (under code l))
    where
      go : (b : Bool) → good (under code l) ≡ b → Err why ≡ refusing (not (good (under code l))) BadProgram (Ok tt) → Retired code l store (Err why) z
      go true h e = refused-taken (rw h at e)
      go false h e = record { answer = rw h (rw h at e); leaves = rw h wiped }

  pub retired_fitted : {r : Answer} {e : List ℕ} → (made (under code l)).answer ≡ Ok tt → Fitted (made (under code l)).pair z r e → Retired code l store r e
  unfolding refusing retire_answer retire_leaves
  retired_fitted {r} {e} q f = go (good (under code l)) refl (sym (set_up-answer (under code l)) ∙ q)
    where
      go : (b : Bool) → good (under code l) ≡ b → refusing (not (good (under code l))) BadProgram (Ok tt) ≡ Ok tt → Retired code l store r e
      go true h e = record { answer = rw h (rw (wiped, length-zeros) at f.answer); leaves = rw h (f.leaves ∙ fit-zeros _ (length store) wiped) }
      go false h e = refused-taken (rw h at e)
