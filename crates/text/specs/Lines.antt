-- The lines of the bench, and the fields that lines are made of.
use Rattle.std.specs.Prelude.{List, [], ◌∷◌, ◌++◌, ℕ}
use Rattle.text.specs.Numbers.{decimal, hex}

-- the end of a line
abbrev pub line_end : List ℕ
line_end = 10 ∷ []

-- "Fields stand apart by one space"
unfoldable pub number_field : ℕ → List ℕ
number_field n = 32 ∷ decimal n

unfoldable pub hex_field : List ℕ → List ℕ
hex_field bs = 32 ∷ hex bs

-- "operation, device, word, in decimal"
unfoldable pub entry_text : ℕ → ℕ → ℕ → List ℕ
entry_text op device word = decimal op ++ number_field device ++ number_field word

-- "a line per record entry"
unfoldable pub entry_line : ℕ → ℕ → ℕ → List ℕ
entry_line op device word = entry_text op device word ++ line_end

-- `end A C`: "the refusal or 0, and the events taken"
unfoldable pub end_line : ℕ → ℕ → List ℕ
end_line a c = (101 ∷ 110 ∷ 100 ∷ []) ++ number_field a ++ number_field c ++ line_end

-- what an entry's line has at most: "operation 2 bytes, device 1, .. word 4" are five, three and ten digits, with two spaces and the line's end
abbrev pub entry_length : ℕ
entry_length = 21

-- the end line, with a refusal below 100 and at most 4,096 events: `end`, a space, two digits, a space, four digits and the line's end
abbrev pub end_length : ℕ
end_length = 12
