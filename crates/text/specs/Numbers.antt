-- Numbers and bytes as text, in ASCII.
use Rattle.std.specs.Prelude.{List, [], ◌∷◌, ◌++◌, ℕ, zero, suc, ◌+◌, ◌/◌, ◌%◌, ltb}
use Rattle.slots.specs.Slots.{pick}
use Rattle.words.specs.Arrays.{each}

-- a number below ten is one digit; any other has the digits of its tenth, and then its last. k is no less than the number of digits
-- before the last.
unfoldable pub digits : ℕ → ℕ → List ℕ
digits zero n = (48 + n % 10) ∷ []
digits (suc k) n =
    let all = digits k (n / 10) ++ ((48 + n % 10) ∷ []) in
    pick (ltb n 10) ((48 + n % 10) ∷ []) all

-- "in decimal": no number has more digits than its own value, but for 0
unfoldable pub decimal : ℕ → List ℕ
decimal n = digits n n

-- `0` to `9`, then `a` to `f`
unfoldable pub hex_digit : ℕ → ℕ
hex_digit n = pick (ltb n 10) (48 + n) (87 + n)

-- "two lower-case digits a byte"
unfoldable pub hex_byte : ℕ → List ℕ
hex_byte b = hex_digit (b / 16) ∷ hex_digit (b % 16) ∷ []

-- "and a single `-` for no bytes"
unfoldable pub hex : List ℕ → List ℕ
hex [] = 45 ∷ []
hex (b ∷ bs) = each hex_byte (b ∷ bs)
