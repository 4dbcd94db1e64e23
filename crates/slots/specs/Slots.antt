-- Lists that are filled from the front and zero behind: what an array of slots means, whatever stands in its slots.
-- `used` is the test of use of a slot and z the free slot.
use Rattle.std.specs.Prelude.{◌≡◌, Bool, true, false, ◌&&◌, ◌||◌, List, [], ◌∷◌, ℕ, zero, suc, length, drop, set}

-- the first of two where the test holds, the second where it does not
abbrev pub pick {ℓ} : {A : Type ℓ} → Bool → A → A → A
pick true a b = a
pick false a b = b

-- the used slots, up to the first free one
unfoldable pub entries : {A : Type 0} → (A → Bool) → List A → List A
entries used [] = []
entries used (x ∷ xs) = pick (used x) (x ∷ entries used xs) []

-- ys and then free slots, exactly n in all; what has no room is left out
unfoldable pub padded : {A : Type 0} → ℕ → A → List A → List A
padded zero z ys = []
padded (suc n) z [] = z ∷ padded n z []
padded (suc n) z (y ∷ ys) = y ∷ padded n z ys

-- a in the first free slot; where none is free, nothing is stored
abbrev pub pushed : {A : Type 0} → (A → Bool) → List A → A → List A
pushed used xs a = set xs (length (entries used xs)) a

-- calls, of which `post` says what they may return, return what p says
abbrev pub Computes : {A : Type 0} → (A → Bool → Type 0) → (A → Bool) → Type 0
Computes {A} post p = (x : A) (b : Bool) → post x b → b ≡ p x

-- and so with two arguments
abbrev pub Steps : {A B : Type 0} → (B → A → B → Type 0) → (B → A → B) → Type 0
Steps {A} {B} post f = (b : B) (x : A) (c : B) → post b x c → c ≡ f b x

-- those that a test holds of, in their order
unfoldable pub keep : {A : Type 0} → (A → Bool) → List A → List A
keep p [] = []
keep p (x ∷ xs) = pick (p x) (x ∷ keep p xs) (keep p xs)

-- all but the first that a test holds of
unfoldable pub without : {A : Type 0} → (A → Bool) → List A → List A
without p [] = []
without p (x ∷ xs) = pick (p x) xs (x ∷ without p xs)

-- does the test hold of one of them? of each?
unfoldable pub any : {A : Type 0} → (A → Bool) → List A → Bool
any p [] = false
any p (x ∷ xs) = p x || any p xs

unfoldable pub every : {A : Type 0} → (A → Bool) → List A → Bool
every p [] = true
every p (x ∷ xs) = p x && every p xs

-- how many a test holds of
abbrev pub count : {A : Type 0} → (A → Bool) → List A → ℕ
count p xs = length (keep p xs)

-- f, with one after the other
unfoldable pub folded : {A B : Type 0} → (B → A → B) → B → List A → B
folded f b [] = b
folded f b (x ∷ xs) = folded f (f b x) xs

-- "slots filled from the front, the rest zero"
abbrev pub tight : {A : Type 0} → (A → Bool) → (A → Bool) → List A → Bool
tight used is_zero xs = every is_zero (drop (length (entries used xs)) xs)
