-- What keeps a pair sound: set-up, and every event that is taken; on the model, and of the pair in memory.
use Rattle.std.specs.Prelude.{false, true, List, ◌≡◌, ℕ, length}
use Rattle.rules.specs.Events.{handle, malformed, step, taken}
use Rattle.rules.specs.Pair.{fresh_pair, setup_of}
use Rattle.rules.specs.PairSlots.{apply, laid, seen, sound_pair}
use Rattle.rules.specs.Program.{Setup, good}
use Rattle.rules.specs.Sound.{sound}
use Rattle.rules.specs.declared.Card.{Card}
use Rattle.rules.specs.declared.Event.{Event}
use Rattle.rules.specs.declared.Pair.{Pair}
use Rattle.rules.specs.declared.RecordEntry.{RecordEntry}
use Rattle.std.specs.Prelude.{Option}

-- the lengths that the types of the arrays give
pub record SizedCard (c : Card) : Type 0 where
  pub table : length c.guest.table ≡ 16
  pub queue : length c.guest.queue ≡ 17
  pub buffer : length c.buffer ≡ 16

-- "Link 58×12, inbox 128×12", and cards of their sizes
pub record Sized (s : Pair) : Type 0 where
  pub p : SizedCard s.p
  pub b : SizedCard s.b
  pub link : length s.link ≡ 58
  pub inbox : length s.inbox ≡ 128

-- what soundness gives of a pair in memory, and that every event keeps it
pub record PairKept : Type 0 where
  -- set-up, from a good program and L
  pub start : (S : Setup) → good S ≡ true → sound (fresh_pair S) ≡ true
  -- each row of the table of events, and with the tests in front of it
  pub handled : (code : List ℕ) (s : Pair) (ev : Event) (t : Pair) (o : Option RecordEntry) → sound s ≡ true → malformed ev ≡ false → handle (setup_of code s) s ev ≡ taken t o → sound t ≡ true
  pub model : (code : List ℕ) (s : Pair) (ev : Event) (t : Pair) (o : Option RecordEntry) → step code s ev ≡ taken t o → sound t ≡ true
  -- a sound pair, laid out in its slots, is sound in memory, and nothing of it is cut off
  pub laid_sound : (s : Pair) → sound s ≡ true → sound_pair (laid s) ≡ true
  pub fits : (s : Pair) → sound s ≡ true → seen (laid s) ≡ s
  -- "slots filled from the front, the rest zero": a sound pair in memory is what it holds, laid out
  pub slots : (s : Pair) → Sized s → sound_pair s ≡ true → s ≡ laid (seen s)
  pub in_memory : (code : List ℕ) (s : Pair) (ev : Event) (t : Pair) (o : Option RecordEntry) → apply code s ev ≡ taken t o → sound_pair t ≡ true
