-- What is promised of an event on a stored pair; proved in proofs/Promises.antt.
use Rattle.std.specs.Prelude.{false, List, ◌≡◌, ℕ, ◌≤◌}
use Rattle.forms.specs.Lent.{where_taken}
use Rattle.rules.specs.Bytes.{read_event, stepped}
use Rattle.rules.specs.PairSlots.{answer_number}
use Rattle.rules.specs.declared.Outcome.{Outcome}
use Rattle.image.specs.Stores.{loaded, save_answer, save_leaves}
use Rattle.firmware.specs.Firmware.{answer_of, applied, entry_length, ill_formed, store_after}

-- the pair in a store is loaded, and the event applied to it: what comes of it in memory
unfoldable pub in_memory : List ℕ → List ℕ → List ℕ → Outcome
in_memory code store event = let l = loaded store in where_taken l.answer (stepped code l.pair event) l

-- A well formed event, with room for an entry: the same as load, step and save. The answer is the first refusal of the three, if there is
-- one; saving what an event made is never refused; and the store is left as saving leaves it.
pub record LoadStepSave (code store event : List ℕ) (n : ℕ) : Type 0 where
  pub answer : answer_of (applied code store event n) ≡ answer_number (in_memory code store event).answer
  pub saves : answer_number (in_memory code store event).answer ≡ 0 → answer_number (save_answer (in_memory code store event).pair store) ≡ 0
  pub leaves : store_after store (applied code store event n) ≡ where_taken (in_memory code store event).answer (save_leaves (in_memory code store event).pair store) store

abbrev pub AsLoadStepSave : Type 0
AsLoadStepSave = (code store event : List ℕ) (n : ℕ) → ill_formed (read_event event) ≡ false → entry_length ≤ n → LoadStepSave code store event n
