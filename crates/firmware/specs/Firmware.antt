-- The monitor over lent bytes: a pair lives in its owner's store as its image. What each function answers, by 01's numbers, and leaves.
use Rattle.std.specs.Prelude.{Bool, false, not, true, List, ◌++◌, ◌≡◌, ℕ, eqb, ltb, length}
use Rattle.std.proofs.lemmas.List.Edits.{sets}
use Rattle.words.specs.Numbers.{le8, le16, le32}
use Rattle.forms.specs.Lent.{where_taken}
use Rattle.layout.specs.Image.{image_at, image_bytes, image_length, sound_image}
use Rattle.rules.specs.Bytes.{apply_read, read_event}
use Rattle.rules.specs.Events.{Verdict, malformed, number, refuse, refused, taken}
use Rattle.rules.specs.PairSlots.{answer_number}
use Rattle.rules.specs.Program.{under}
use Rattle.rules.specs.declared.RecordEntry.{RecordEntry}
use Rattle.rules.specs.declared.Refusal.TheVariants.{BadFile, Malformed, TooShort, Unsound}
use Rattle.image.specs.Stores.{loaded, retire_answer, retire_leaves, save_answer, save_leaves}
use Rattle.rules.specs.declared.Event.{Event}
use Rattle.std.specs.Prelude.{Some, None, Option}

-- ---- step

-- "malformed event, or not 8 bytes"
unfoldable pub ill_formed : Option Event → Bool
ill_formed None = true
ill_formed (Some ev) = malformed ev

-- "at most one record entry (operation 2 bytes, device 1, zero 1, word 4)"
abbrev pub entry_length : ℕ
entry_length = 8

abbrev pub entry_bytes : RecordEntry → List ℕ
entry_bytes e = le16 e.op.0 ++ le8 e.device ++ le8 0 ++ le32 e.word

-- zeros where there is none
unfoldable pub entry_of : Option RecordEntry → RecordEntry
entry_of None = record { op = record { 0 = 0 }; device = 0; word = 0 }
entry_of (Some e) = e

-- "lent buffer too short": of n bytes, where there is an entry to store. Where nothing is shown, any length will do
unfoldable pub no_room : ℕ → Option RecordEntry → Bool
no_room n None = false
no_room n (Some e) = ltb n entry_length

unfoldable pub in_room : ℕ → Verdict → Verdict
in_room n (refused why) = refused why
in_room n (taken s o) = refuse (no_room n o) TooShort (taken s o)

-- An event on the pair in a store, with n bytes for its entry. "Order for an event: 1, 11, program length 8, the event's column, bad
-- instruction 8"; between 1 and 11 stands 10, "image not 3,444 bytes", and last of all 9
unfoldable pub applied : List ℕ → List ℕ → List ℕ → ℕ → Verdict
applied code store event n =
    refuse (ill_formed (read_event event)) Malformed
    (refuse (not (eqb (length store) image_length)) BadFile
    (refuse (not (sound_image store)) Unsound
    (in_room n (apply_read code (image_at store) (read_event event)))))

-- "the refusal or 0"
unfoldable pub answer_of : Verdict → ℕ
answer_of (refused why) = number why
answer_of (taken s o) = 0

-- refused, the store stays as it was; else it is the next pair's image
unfoldable pub store_after : List ℕ → Verdict → List ℕ
store_after store (refused why) = store
store_after store (taken s o) = image_bytes s

-- refused, the entry stays as it was; else it begins with the bytes of what is shown, as many as have a place in it
unfoldable pub entry_after : List ℕ → Verdict → List ℕ
entry_after entry (refused why) = entry
entry_after entry (taken s o) = sets entry 0 (entry_bytes (entry_of o))

-- the answer is r, the store is left as e, and the entry as f
pub record Stepped (code store event entry : List ℕ) (r : ℕ) (e f : List ℕ) : Type 0 where
  pub answer : r ≡ answer_of (applied code store event (length entry))
  pub leaves : e ≡ store_after store (applied code store event (length entry))
  pub shows : f ≡ entry_after entry (applied code store event (length entry))

-- ---- save: the pair in a store is loaded, and saved into a buffer

pub record SavedFrom (store buf : List ℕ) (r : ℕ) (e : List ℕ) : Type 0 where
  pub answer : r ≡ answer_number (where_taken (loaded store).answer (save_answer (loaded store).pair buf) (loaded store).answer)
  pub leaves : e ≡ where_taken (loaded store).answer (save_leaves (loaded store).pair buf) buf

-- ---- retire

pub record RetiredStore (code : List ℕ) (l : ℕ) (store : List ℕ) (r : ℕ) (e : List ℕ) : Type 0 where
  pub answer : r ≡ answer_number (retire_answer (under code l) (length store))
  pub leaves : e ≡ retire_leaves (under code l) (length store)
