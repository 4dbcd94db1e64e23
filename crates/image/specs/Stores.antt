-- Saving, loading and retiring: what comes back, and what is left in the lent bytes (01, "Stored forms", "Numbers that come back").
-- Which byte is which field is said in crate layout.
use Rattle.std.specs.Prelude.{not, List, ◌++◌, ◌≡◌, ℕ, ◌-◌, eqb, ltb, length, drop, replicate}
use Rattle.forms.specs.Lent.{refusing, where_taken}
use Rattle.layout.specs.Image.{image_length, image_bytes, image_at, sound_image}
use Rattle.rules.specs.Events.{refuse, taken}
use Rattle.rules.specs.PairSlots.{sound_pair, outcome, zero_pair, made}
use Rattle.rules.specs.Program.{Setup, good, under}
use Rattle.rules.specs.declared.Outcome.{Outcome}
use Rattle.rules.specs.declared.Pair.{Pair}
use Rattle.rules.specs.declared.Refusal.TheVariants.{BadProgram, TooShort, BadFile, Unsound}
use Rattle.rules.specs.Answer.{Answer}
use Rattle.std.specs.Prelude.{None, Ok}

-- "lent buffer too short", of n bytes
unfoldable pub room : ℕ → Answer
room n = refusing (ltb n image_length) TooShort (Ok tt)

-- the image of s was to be written into a buffer: the answer is r, and the buffer is now e. "Saving .. into a longer buffer keeps the rest of it"
pub record Fitted (s : Pair) (buf : List ℕ) (r : Answer) (e : List ℕ) : Type 0 where
  pub answer : r ≡ room (length buf)
  pub leaves : e ≡ where_taken (room (length buf)) (image_bytes s ++ drop image_length buf) buf

-- ---- save

-- "Save: 11, then 9"
unfoldable pub save_answer : Pair → List ℕ → Answer
save_answer s buf = refusing (not (sound_pair s)) Unsound (room (length buf))

-- "Saving .. into a longer buffer keeps the rest of it"; refused, the buffer stays as it was
unfoldable pub save_leaves : Pair → List ℕ → List ℕ
save_leaves s buf = where_taken (save_answer s buf) (image_bytes s ++ drop image_length buf) buf

-- the pair s was saved into a buffer: the answer is r, and the buffer is now e
pub record Saved (s : Pair) (buf : List ℕ) (r : Answer) (e : List ℕ) : Type 0 where
  pub answer : r ≡ save_answer s buf
  pub leaves : e ≡ save_leaves s buf

-- ---- load

-- "Load: 10, then 11"; "nothing made": zeros stand in the pair's place
unfoldable pub loaded : List ℕ → Outcome
loaded b =
    outcome zero_pair
    (refuse (not (eqb (length b) image_length)) BadFile
    (refuse (not (sound_image b)) Unsound
    (taken (image_at b) None)))

-- ---- retire: of the store only its length n counts. What stood in it is not even looked at

unfoldable pub zeros : ℕ → List ℕ
zeros n = replicate n 0

-- "Retire: 8, then 9"
unfoldable pub retire_answer : Setup → ℕ → Answer
retire_answer S n = refusing (not (good S)) BadProgram (room n)

-- "on both every byte becomes 0"; else a fresh pair's image, and "retiring zeroes the rest"
unfoldable pub retire_leaves : Setup → ℕ → List ℕ
retire_leaves S n = where_taken (retire_answer S n) (image_bytes (made S).pair ++ zeros (n - image_length)) (zeros n)

-- a store was retired under a program and L: the answer is r, and the store is now e
pub record Retired (code : List ℕ) (l : ℕ) (store : List ℕ) (r : Answer) (e : List ℕ) : Type 0 where
  pub answer : r ≡ retire_answer (under code l) (length store)
  pub leaves : e ≡ retire_leaves (under code l) (length store)
