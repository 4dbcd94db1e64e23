-- "All stored numbers are little-endian" (01): numbers of one, two and four bytes in a list of bytes.
use Rattle.std.specs.Prelude.{ℕ, ◌+◌, ◌*◌, ◌/◌, ◌%◌, ◌<◌, List, [], ◌∷◌, get_or}

-- the byte of a number below 256
abbrev pub le8 : ℕ → List ℕ
le8 v = v ∷ []

-- the two bytes of a number below 256^2, the low one first
abbrev pub le16 : ℕ → List ℕ
le16 v = v % 256 ∷ v / 256 ∷ []

-- the four bytes of a number below 256^4, the lowest first
abbrev pub le32 : ℕ → List ℕ
le32 v = v % 256 ∷ v / 256 % 256 ∷ v / 65536 % 256 ∷ v / 16777216 ∷ []

-- the number whose one, two or four bytes stand from place i of s on; where s has ended, zeros are read
abbrev pub at8 : List ℕ → ℕ → ℕ
at8 s i = get_or s i 0

abbrev pub at16 : List ℕ → ℕ → ℕ
at16 s i = get_or s i 0 + get_or s (i + 1) 0 * 256

abbrev pub at32 : List ℕ → ℕ → ℕ
at32 s i = get_or s i 0 + get_or s (i + 1) 0 * 256 + get_or s (i + 2) 0 * 65536 + get_or s (i + 3) 0 * 16777216

-- s holds bytes: what stands at each place is below 256
abbrev pub Bytes : List ℕ → Type 0
Bytes s = (i : ℕ) → get_or s i 0 < 256
