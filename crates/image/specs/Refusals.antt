-- "each refusal comes in the named situation and in no other": what saving, loading and retiring answer, by 01's numbers.
use mathlib.Core.{Bool.{false, true}, List.List, Logic.◌↔◌, Path.◌≡◌}
use Rattle.std.specs.Prelude.{◌<◌, ◌≤◌, ℕ, length}
use Rattle.layout.specs.Image.{image_length, sound_image}
use Rattle.rules.specs.{PairSlots.{answer_number, sound_pair}, Program.{Setup, good}, declared.Pair.Pair}
use Rattle.image.specs.Stores.{loaded, retire_answer, save_answer}

-- "Save: 11, then 9"
pub record SaveRefusals (s : Pair) (buf : List ℕ) : Type 0 where
  pub unsound : answer_number (save_answer s buf) ≡ 11 ↔ sound_pair s ≡ false
  pub too_short : answer_number (save_answer s buf) ≡ 9 ↔ (sound_pair s ≡ true) × (length buf < image_length)
  pub taken : answer_number (save_answer s buf) ≡ 0 ↔ (sound_pair s ≡ true) × (image_length ≤ length buf)

-- "Load: 10, then 11"
pub record LoadRefusals (b : List ℕ) : Type 0 where
  pub bad_file : answer_number (loaded b).answer ≡ 10 ↔ (length b ≡ image_length → ⊥)
  pub unsound : answer_number (loaded b).answer ≡ 11 ↔ (length b ≡ image_length) × (sound_image b ≡ false)
  pub taken : answer_number (loaded b).answer ≡ 0 ↔ (length b ≡ image_length) × (sound_image b ≡ true)

-- "Retire: 8, then 9", of a store of n bytes
pub record RetireRefusals (S : Setup) (n : ℕ) : Type 0 where
  pub bad_program : answer_number (retire_answer S n) ≡ 8 ↔ good S ≡ false
  pub too_short : answer_number (retire_answer S n) ≡ 9 ↔ (good S ≡ true) × (n < image_length)
  pub taken : answer_number (retire_answer S n) ≡ 0 ↔ (good S ≡ true) × (image_length ≤ n)
