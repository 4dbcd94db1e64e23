-- A stored form says once where the bytes of a thing stand. What is written, what is read, how long it is and which bytes are
-- allowed there are all read off it.
use Rattle.std.specs.Prelude.{Bool, true, false, ◌&&◌, List, ◌++◌, ℕ, zero, suc, ◌+◌, ◌*◌, eqb, ltb}
use Rattle.words.specs.Numbers.{le8, le16, le32, at8, at16, at32}
use Rattle.words.specs.Arrays.{each, tab}

-- the number of bytes; the bytes of a thing; the thing whose bytes stand from place i of s on; whether those bytes may stand there
pub record Stored (A : Type 0) : Type 0 where
  pub size : ℕ
  pub bytes : A → List ℕ
  pub at : List ℕ → ℕ → A
  pub fine : List ℕ → ℕ → Bool

-- a number of one, two or four bytes
abbrev pub byte : Stored ℕ
byte = record { size = 1; bytes = le8; at = at8; fine = λ s i. true }

abbrev pub half : Stored ℕ
half = record { size = 2; bytes = le16; at = at16; fine = λ s i. true }

abbrev pub word : Stored ℕ
word = record { size = 4; bytes = le32; at = at32; fine = λ s i. true }

-- a number that is always the same, and says nothing: "form 1", "zero"
abbrev pub always : Stored ℕ → ℕ → Stored (Unit {0})
always S n = record { size = S.size; bytes = λ u. S.bytes n; at = λ s i. tt; fine = λ s i. S.fine s i && eqb (S.at s i) n }

-- one thing, and another behind it
infixl 40 ◌then◌
abbrev pub ◌then◌ : {A B : Type 0} → Stored A → Stored B → Stored (A × B)
◌then◌ S T = record {
  size = S.size + T.size;
  bytes = λ p. S.bytes p.0 ++ T.bytes p.1;
  at = λ s i. (S.at s i, T.at s (i + S.size));
  fine = λ s i. S.fine s i && T.fine s (i + S.size);
}

-- does the test hold of 0, 1, .. n - 1?
unfoldable pub all : (ℕ → Bool) → ℕ → Bool
all f zero = true
all f (suc n) = all f n && f n

-- n of a kind, one behind the other
abbrev pub array : {A : Type 0} → ℕ → Stored A → Stored (List A)
array n S = record {
  size = n * S.size;
  bytes = each S.bytes;
  at = λ s i. tab (λ j. S.at s (i + j * S.size)) n;
  fine = λ s i. all (λ j. S.fine s (i + j * S.size)) n;
}

-- a thing that is stored as another: `from` gives that other, `to` makes the thing of it, and `may` says of what it can be made
abbrev pub stored_as : {A B : Type 0} → Stored A → (A → B) → (B → A) → (A → Bool) → Stored B
stored_as S to from may = record {
  size = S.size;
  bytes = λ y. S.bytes (from y);
  at = λ s i. to (S.at s i);
  fine = λ s i. S.fine s i && may (S.at s i);
}

-- it can be made of anything
abbrev pub any : {A : Type 0} → A → Bool
any x = true

-- a flag is 0 or 1
unfoldable pub flag_number : Bool → ℕ
flag_number true = 1
flag_number false = 0

abbrev pub flag : Stored Bool
flag = stored_as byte (λ n. eqb n 1) flag_number (λ n. ltb n 2)
