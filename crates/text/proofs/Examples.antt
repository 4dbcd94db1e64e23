-- Some texts, byte for byte.
use mathlib.Core.Path.{◌≡◌, refl}
use mathlib.Core.List.{[], ◌∷◌}
use Rattle.words.specs.Arrays.{each}
use Rattle.text.specs.Numbers.{decimal, digits, hex, hex_byte, hex_digit}
use Rattle.text.specs.Lines.{end_line, entry_line, entry_text, number_field}

-- `0`, `9`, `10`, `4294967295`
numbers : (decimal 0 ≡ 48 ∷ [])
    × (decimal 9 ≡ 57 ∷ [])
    × (decimal 10 ≡ 49 ∷ 48 ∷ [])
    × (decimal 4294967295 ≡ 52 ∷ 50 ∷ 57 ∷ 52 ∷ 57 ∷ 54 ∷ 55 ∷ 50 ∷ 57 ∷ 53 ∷ [])
unfolding decimal digits
numbers = (refl, refl, refl, refl)

-- `-`, `00`, `0aff`
bytes : (hex [] ≡ 45 ∷ []) × (hex (0 ∷ []) ≡ 48 ∷ 48 ∷ []) × (hex (10 ∷ 255 ∷ []) ≡ 48 ∷ 97 ∷ 102 ∷ 102 ∷ [])
unfolding hex each hex_byte hex_digit
bytes = (refl, refl, refl)

-- `1 2 7`, `end 0 13`
lines : (entry_line 1 2 7 ≡ 49 ∷ 32 ∷ 50 ∷ 32 ∷ 55 ∷ 10 ∷ [])
    × (end_line 0 13 ≡ 101 ∷ 110 ∷ 100 ∷ 32 ∷ 48 ∷ 32 ∷ 49 ∷ 51 ∷ 10 ∷ [])
unfolding entry_line entry_text end_line number_field decimal digits
lines = (refl, refl)
