-- Laws of a number's digits.
use mathlib.Core.Path.{◌≡◌, refl, ap}
use mathlib.Core.Bool.{Bool, true, false}
use mathlib.Core.List.{List, [], ◌∷◌, ◌++◌}
use Prim.Native.Nat.{ℕ, zero, suc, ◌+◌, ◌/◌, ◌%◌, ◌^◌, ◌<◌, ◌≤◌}
use native.Mathlib.Nat.{pow-suc}
use native.Mathlib.Omega.{arith}
use borrow.Author.Tests.{lt-ltb, le-ltb, ltb-false}
use lib.Dec.{ltb}
use lib.ListN.{length, length-append}
use Rattle.words.specs.Arrays.{each}
use Rattle.text.specs.Numbers.{decimal, digits, hex, hex_byte}

-- what bounds the number of digits does not count, as long as it is enough
enough : (j k n : ℕ) → n ≤ j → n ≤ k → digits j n ≡ digits k n
unfolding digits
enough zero zero n h h' = refl
enough zero (suc k) n h h' = rw (lt-ltb n 10 (omega arith))
enough (suc j) zero n h h' = rw (lt-ltb n 10 (omega arith))
enough (suc j) (suc k) n h h' = rw (enough j k (n / 10) (omega arith) (omega arith))

-- a number below ten is one digit; any other has the digits of its tenth, and then its last
pub one_digit : (n : ℕ) → n < 10 → decimal n ≡ (48 + n % 10) ∷ []
unfolding decimal digits
one_digit zero h = refl
one_digit (suc n) h = rw (lt-ltb (suc n) 10 h)

pub more_digits : (n : ℕ) → 10 ≤ n → decimal n ≡ decimal (n / 10) ++ ((48 + n % 10) ∷ [])
unfolding decimal digits
more_digits zero h = absurd (omega arith)
more_digits (suc n) h = rw (le-ltb (suc n) 10 h, enough n (suc n / 10) (suc n / 10) (omega arith) (omega arith))

-- a number below 10^k has at most k digits, and at least one
few : (j k n : ℕ) → n < 10 ^ suc k → length (digits j n) ≤ suc k
unfolding digits
few zero k n h = omega arith
few (suc j) k n h = go (few j) (ltb n 10) refl k h
  where
    go : ((k m : ℕ) → m < 10 ^ suc k → length (digits j m) ≤ suc k) → (b : Bool) → ltb n 10 ≡ b → (k : ℕ) → n < 10 ^ suc k → length (digits (suc j) n) ≤ suc k
    go r true e k h = rw e (omega arith)
    go r false e zero h = absurd (omega (arith, ltb-false n 10 e))
    go r false e (suc k) h = rw (e, length-append) (omega (arith, r k (n / 10) (omega (arith, pow-suc 10 (suc k)))))

pub decimal-few : (k n : ℕ) → n < 10 ^ suc k → length (decimal n) ≤ suc k
unfolding decimal
decimal-few k n h = few n k n h

-- bytes as they are, and bytes in hexadecimal
pub each_itself : (bs : List ℕ) → each (λ b. b ∷ []) bs ≡ bs
unfolding each
each_itself [] = refl
each_itself (b ∷ bs) = ap (λ l. b ∷ l) (each_itself bs)

pub hex-none : (bs : List ℕ) → length bs ≡ 0 → hex bs ≡ 45 ∷ []
unfolding hex
hex-none [] h = refl
hex-none (b ∷ bs) h = absurd (omega arith)

pub hex_some : (bs : List ℕ) → (length bs ≡ 0 → ⊥) → hex bs ≡ each hex_byte bs
unfolding hex
hex_some [] h = absurd (h refl)
hex_some (b ∷ bs) h = refl
