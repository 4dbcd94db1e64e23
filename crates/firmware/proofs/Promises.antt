-- What is promised of an event on a stored pair, proved.
use mathlib.Core.Bool.{Bool, false, true}
use mathlib.Core.List.{List, append-nil}
use mathlib.Core.Path.{◌≡◌, refl, sym}
use Prim.Native.Nat.{ℕ, ◌≤◌}
use native.Mathlib.Omega.{arith}
use borrow.Author.Tests.{eqb-true}
use lib.Dec.{eqb}
use lib.ListN.{drop_of_length-le, length}
use Rattle.forms.specs.Lent.{refusing, where_taken}
use Rattle.layout.specs.Image.{image_at, image_bytes, image_length, sound_image}
use Rattle.rules.proofs.Answers.{not_zero, taken-zero, zero-taken}
use Rattle.rules.proofs.PairKept.{sound-apply}
use Rattle.rules.proofs.Verdicts.{IfTaken}
use Rattle.rules.specs.Bytes.{apply_read, read_event, stepped}
use Rattle.rules.specs.Events.{Verdict, refuse, refused, taken}
use Rattle.rules.specs.PairSlots.{answer_number, outcome, sound_pair}
use Rattle.rules.specs.declared.Pair.{Pair}
use Rattle.rules.specs.declared.Refusal.TheVariants.{BadFile, Unsound}
use Rattle.image.proofs.Stores.{room_enough as room_fits}
use Rattle.image.specs.Stores.{loaded, save_answer, save_leaves}
use Rattle.firmware.specs.Firmware.{answer_of, applied, entry_length, ill_formed, store_after}
use Rattle.firmware.specs.Promises.{AsLoadStepSave, LoadStepSave, in_memory}
use Rattle.firmware.proofs.Outcomes.{room_enough}
use Rattle.rules.specs.declared.Event.{Event}
use Rattle.rules.specs.Answer.{Answer}
use Rattle.std.specs.Prelude.{Some, None, Option, Ok}

-- the same by 01's numbers
numbered : {a b : Answer} → (a ≡ Ok tt → b ≡ Ok tt) → answer_number a ≡ 0 → answer_number b ≡ 0
numbered {a = a} f q = taken-zero (f (zero-taken a q))

-- saving a sound pair in the place of an image
module _ (s : Pair) (store : List ℕ) (l : length store ≡ image_length) (u : sound_pair s ≡ true) where
  save-answers : save_answer s store ≡ Ok tt
  unfolding save_answer refusing
  save-answers = rw (u, room_fits (length store) (omega arith))

  save_leaves_lem : image_bytes s ≡ save_leaves s store
  unfolding save_leaves where_taken
  save_leaves_lem = rw (save-answers, drop_of_length-le store {i = image_length} (omega arith)) (sym (append-nil (image_bytes s)))

-- a verdict, and its outcome on the pair s, where what is taken is sound
module _ (s : Pair) (store : List ℕ) (l : length store ≡ image_length) where
  answers : (v : Verdict) → answer_of v ≡ answer_number (outcome s v).answer
  unfolding answer_of answer_number outcome
  answers (refused why) = refl
  answers (taken t o) = refl

  saves : (v : Verdict) → IfTaken (λ t o. sound_pair t ≡ true) v → (outcome s v).answer ≡ Ok tt → save_answer (outcome s v).pair store ≡ Ok tt
  unfolding outcome
  saves (refused why) u q = cc
  saves (taken t o) u q = save-answers t store l u

  leaves : (v : Verdict) → IfTaken (λ t o. sound_pair t ≡ true) v → store_after store v ≡ where_taken (outcome s v).answer (save_leaves (outcome s v).pair store) store
  unfolding outcome store_after where_taken
  leaves (refused why) u = refl
  leaves (taken t o) u = save_leaves_lem t store l u

-- what an event makes is sound
sound-read : (code : List ℕ) (s : Pair) (r : Option Event) → IfTaken (λ t o. sound_pair t ≡ true) (apply_read code s r)
unfolding apply_read
sound-read code s None = tt
sound-read code s (Some ev) = sound-apply code s ev

module _ (code store event : List ℕ) (n : ℕ) (f : ill_formed (read_event event) ≡ false) (r : entry_length ≤ n) where
  -- the event's verdict on the pair of the image
  abbrev v : Verdict
  v = apply_read code (image_at store) (read_event event)

  module _ (h : eqb (length store) image_length ≡ true) (u : sound_image store ≡ true) where
    is-applied : v ≡ applied code store event n
    unfolding applied refuse
    is-applied = rw (f, h, u) (room_enough n v r)

    is-in_memory : outcome (image_at store) v ≡ in_memory code store event
    unfolding in_memory loaded refuse outcome stepped where_taken
    is-in_memory = rw (h, u)

    on_an_image : LoadStepSave code store event n
    on_an_image =
        let l = eqb-true (length store) image_length h in
        let made = sound-read code (image_at store) (read_event event) in
        record {
          answer = rw (← is-applied, ← is-in_memory) (answers (image_at store) store l v);
          saves = rw (← is-in_memory) (numbered (saves (image_at store) store l v made));
          leaves = rw (← is-applied, ← is-in_memory) (leaves (image_at store) store l v made);
        }

  by_the_tests : (a b : Bool) → eqb (length store) image_length ≡ a → sound_image store ≡ b → LoadStepSave code store event n
  unfolding applied in_memory loaded refuse outcome where_taken answer_number answer_of store_after
  by_the_tests false b h u = record { answer = rw (f, h); saves = rw h (λ q. absurd (let k = not_zero BadFile in omega arith)); leaves = rw (f, h) }
  by_the_tests true false h u = record { answer = rw (f, h, u); saves = rw (h, u) (λ q. absurd (let k = not_zero Unsound in omega arith)); leaves = rw (f, h, u) }
  by_the_tests true true h u = on_an_image h u

pub as_load-step-save : AsLoadStepSave
as_load-step-save code store event n f r = by_the_tests code store event n f r (eqb (length store) image_length) (sound_image store) refl refl
