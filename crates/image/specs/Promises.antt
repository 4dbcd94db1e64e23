-- What is promised of stored pairs. `Saved`, `loaded` and `Retired` are what the code's contracts cite; all is proved in proofs/Promises.antt.
use Rattle.rules.specs.Answer.{Answer}
use Rattle.std.specs.Prelude.{true, List, ◌≡◌, ℕ, length, take, drop}
use Rattle.words.specs.Numbers.{Bytes}
use Rattle.layout.specs.Image.{image_length, PairSized}
use Rattle.rules.specs.PairSlots.{answer_number, sound_pair, laid, seen, zero_pair, made}
use Rattle.rules.specs.Program.{under}
use Rattle.rules.specs.declared.Pair.{Pair}
use Rattle.image.specs.Stores.{Saved, loaded, Retired, zeros}

-- "Saving a pair and loading it gives the same pair", for every sound pair
abbrev pub LoadOfSaved : Type 0
LoadOfSaved = (s : Pair) (buf : List ℕ) (r : Answer) (e : List ℕ) → PairSized s → Saved s buf r e → answer_number r ≡ 0
    → (answer_number (loaded (take image_length e)).answer ≡ 0) × ((loaded (take image_length e)).pair ≡ s)

-- and saving what was loaded gives the same bytes, for every accepted image
abbrev pub SavedOfLoad : Type 0
SavedOfLoad = (b : List ℕ) (buf : List ℕ) (r : Answer) (e : List ℕ) → Bytes b → answer_number (loaded b).answer ≡ 0 → length buf ≡ image_length → Saved (loaded b).pair buf r e
    → (answer_number r ≡ 0) × (e ≡ b)

-- what is accepted is sound, and every slot not in use is zero; where a load is refused, zeros stand in the pair's place
pub record Accepted : Type 0 where
  pub sound : (b : List ℕ) → answer_number (loaded b).answer ≡ 0 → sound_pair (loaded b).pair ≡ true
  pub zero_slots : (b : List ℕ) → answer_number (loaded b).answer ≡ 0 → laid (seen (loaded b).pair) ≡ (loaded b).pair
  pub nothing : (b : List ℕ) → (answer_number (loaded b).answer ≡ 0 → ⊥) → (loaded b).pair ≡ zero_pair

-- "a refused save or load writes nothing": the buffer stays as it was
abbrev pub RefusedSave : Type 0
RefusedSave = (s : Pair) (buf : List ℕ) (r : Answer) (e : List ℕ) → Saved s buf r e → (answer_number r ≡ 0 → ⊥) → e ≡ buf

-- a card that was wiped remembers nothing
pub record Forgets : Type 0 where
  -- two stores of equal length, with any two contents, are byte for byte the same after retiring
  pub same : (code : List ℕ) (l : ℕ) (store other : List ℕ) (r r' : Answer) (e e' : List ℕ) → length store ≡ length other
      → Retired code l store r e → Retired code l other r' e' → (r ≡ r') × (e ≡ e')
  -- "on both every byte becomes 0"
  pub refused : (code : List ℕ) (l : ℕ) (store : List ℕ) (r : Answer) (e : List ℕ) → Retired code l store r e → (answer_number r ≡ 0 → ⊥) → e ≡ zeros (length store)
  -- else what is loaded from the store's front is the fresh pair, and behind it all is zero
  pub fresh : (code : List ℕ) (l : ℕ) (store : List ℕ) (r : Answer) (e : List ℕ) → Retired code l store r e → answer_number r ≡ 0
      → (answer_number (loaded (take image_length e)).answer ≡ 0) × ((loaded (take image_length e)).pair ≡ (made (under code l)).pair)
  pub rest : (code : List ℕ) (l : ℕ) (store : List ℕ) (r : Answer) (e : List ℕ) → Retired code l store r e → answer_number r ≡ 0 → drop image_length e ≡ zeros (length (drop image_length store))
  -- the store keeps its length
  pub keeps_length : (code : List ℕ) (l : ℕ) (store : List ℕ) (r : Answer) (e : List ℕ) → Retired code l store r e → length e ≡ length store
