-- The laws of a loop that writes the elements of an array one behind the other, and of an array that is made by a call for each element.
use mathlib.Core.Path.{◌≡◌, refl, sym, ◌∙◌}
use mathlib.Core.List.{List, [], ◌∷◌, ◌++◌, append_assoc, append-nil}
use Prim.Native.Nat.{ℕ, zero, suc, ◌+◌, ◌*◌, ◌≤◌, ◌<◌}
use mathlib.Core.Logic.{⊎_elim}
use native.Mathlib.Nat.{suc-mul, le_of_lt, eq-or-lt_of_le}
use native.Mathlib.Numerals.{add-one}
use native.Mathlib.Omega.{arith}
use lib.ListN.{length, get_or, take, length-append}
use denote.Param.Members.{Mut, Called}
use Rattle.std.specs.Array.{IsFromFnResult, IsFromFnResultFrom}
use lib.Seq.{take-suc, length-take-le, take_all}
use Rattle.words.specs.Arrays.{each, tab}
use Rattle.words.specs.Wrote.{Wrote}
use Rattle.words.proofs.Wrote.{after, nothing}

-- ---- written

module _ {A : Type 0} (f : A → List ℕ) where
  pub each_append : (xs ys : List A) → each f (xs ++ ys) ≡ each f xs ++ each f ys
  unfolding each
  each_append [] ys = refl
  each_append (x ∷ xs) ys = rw (each_append xs ys, append_assoc)

  pub each-one_more : (xs : List A) (x : A) → each f (xs ++ (x ∷ [])) ≡ each f xs ++ f x
  unfolding each
  each-one_more xs x = each_append xs (x ∷ []) ∙ rw append-nil

  -- before a loop's first turn, and after its last
  pub none : {b : List ℕ} {at : ℕ} → Wrote b at (each f []) b
  unfolding each
  none = nothing

  pub all : (xs : List A) (i : ℕ) {b e : List ℕ} {at : ℕ} → length xs ≤ i → Wrote b at (each f (take i xs)) e → Wrote b at (each f xs) e
  all xs i h w = rw (take_all i xs h) at w

  -- each of them is k bytes wide
  module _ (k : ℕ) (wide : (x : A) → length (f x) ≡ k) where
    pub each-length : (xs : List A) → length (each f xs) ≡ length xs * k
    unfolding each
    each-length [] = omega arith
    each-length (x ∷ xs) = rw (length-append, suc-mul) (omega (arith, wide x, each-length xs))

    -- a loop's turn: the one at i is written behind those before it
    pub more : (xs : List A) (i : ℕ) (d : A) {b c e : List ℕ} {at j : ℕ} → i < length xs
        → Wrote b at (each f (take i xs)) c → Wrote c j (f (get_or xs i d)) e → j ≡ at + i * k → Wrote b at (each f (take (i + 1) xs)) e
    more xs i d h p q place =
        let n : length (each f (take i xs)) ≡ i * k = rw (each-length, length-take-le i xs (le_of_lt h)) in
        rw (add-one, take-suc xs i d, each-one_more) (after p q (rw n place))

-- ---- read

module _ {A : Type 0} (f : ℕ → A) where
  pub length-tab : (n : ℕ) → length (tab f n) ≡ n
  unfolding tab
  length-tab zero = refl
  length-tab (suc n) = rw (length-append, length-tab n, add-one)

-- a list of n, whose elements are these
tab_taken : {A : Type 0} (f : ℕ → A) (xs : List A) (d : A) (n : ℕ) → n ≤ length xs → ((i : ℕ) (e : A) → i < n → get_or xs i e ≡ f i) → take n xs ≡ tab f n
unfolding tab
tab_taken f xs d zero k h = refl
tab_taken f xs d (suc n) k h = rw (take-suc xs n d, tab_taken f xs d n (le_of_lt k) (λ i e l. h i e (omega arith)), h n d (omega arith))

pub tab_filled : {A : Type 0} (f : ℕ → A) (xs : List A) (n : ℕ) → length xs ≡ n → ((i : ℕ) (d : A) → i < n → get_or xs i d ≡ f i) → xs ≡ tab f n
unfolding tab
tab_filled f [] zero l h = refl
tab_filled f [] (suc n) l h = absurd (omega arith)
tab_filled f (x ∷ xs) n l h = sym (take_all n (x ∷ xs) (omega arith)) ∙ tab_taken f (x ∷ xs) x n (omega arith) h

-- calls at 0, 1, .. n - 1, each of which gives f of its number and keeps what P says of the state
module _ {F A : Type 0} (g : Mut F (ℕ × Unit {0}) A) (P : F → Type 0) (f : ℕ → A)
    (gives : (p q : F) (i : ℕ) (y : A) → P p → Called g p (i, tt) y q → (y ≡ f i) × P q) where
  from_fn_at : (n : ℕ) (p : F) (ys : List A) (i j : ℕ) (d : A) → P p → IsFromFnResultFrom g p ys i n → i ≤ j → j < i + n → get_or ys j d ≡ f j
  from_fn_at zero p ys i j d h c k l = absurd (omega arith)
  from_fn_at (suc n) p ys i j d h c k l =
      let now = gives p c.0 i c.1 h c.3 in
      ⊎_elim (λ (e : i ≡ j). rw (← e) (c.2.1 d ∙ now.0)) (λ (m : i < j). from_fn_at n c.0 ys (i + 1) j d now.1 c.4 (omega arith) (omega arith)) (eq-or-lt_of_le k)

  pub tab_from_fn : (p : F) (ys : List A) (n : ℕ) → P p → IsFromFnResult g p ys n → ys ≡ tab f n
  tab_from_fn p ys n h c = tab_filled f ys n c.long (λ j d l. from_fn_at n p ys 0 j d h c.each (omega arith) (omega arith))

-- the first, and then the others, which h counts from 0 again
pub tab-first : {A : Type 0} (f h : ℕ → A) (n : ℕ) → ((j : ℕ) → f (suc j) ≡ h j) → tab f (suc n) ≡ f 0 ∷ tab h n
unfolding tab
tab-first f h zero e = refl
tab-first f h (suc n) e = rw (tab-first f h n e, e n)
