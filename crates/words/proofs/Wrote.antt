-- Laws of `Wrote`: how writes are put together, and what a write leaves as it was.
use mathlib.Core.Path.{◌≡◌, refl, ap, sym, ◌∙◌}
use mathlib.Core.List.{List, [], ◌∷◌, ◌++◌, append_assoc}
use Prim.Native.Nat.{ℕ, suc, ◌+◌, ◌≤◌, ◌<◌}
use native.Mathlib.Nat.{add-zero, add-suc, suc-add}
use native.Mathlib.Numerals.{add-one}
use native.Mathlib.Omega.{arith}
use lib.ListN.{length, get_or, take, drop, set}
use lib.Seq.{sets, length-sets, sets-eq, set_out, take-set-le, drop-set-lt, length-take-le, take-suc, drop_at, take-append_seam}
use Rattle.words.specs.Wrote.{Wrote}

-- ---- runs of stores

sets_append : (l : List ℕ) (i : ℕ) (xs ys : List ℕ) → sets (sets l i xs) (i + length xs) ys ≡ sets l i (xs ++ ys)
sets_append l i [] ys = rw add-zero
sets_append l i (x ∷ xs) ys = rw (add-suc, ← suc-add) (sets_append (set l i x) (suc i) xs ys)

sets_out : (l : List ℕ) (i : ℕ) (xs : List ℕ) → length l ≤ i → sets l i xs ≡ l
sets_out l i [] h = refl
sets_out l i (x ∷ xs) h = rw (set_out l i x h) (sets_out l (suc i) xs (omega arith))

take_sets : (n : ℕ) (l : List ℕ) (i : ℕ) (xs : List ℕ) → n ≤ i → take n (sets l i xs) ≡ take n l
take_sets n l i [] h = refl
take_sets n l i (x ∷ xs) h = take_sets n (set l i x) (suc i) xs (omega arith) ∙ take-set-le n l i x h

drop_sets : (n : ℕ) (l : List ℕ) (i : ℕ) (xs : List ℕ) → i + length xs ≤ n → drop n (sets l i xs) ≡ drop n l
drop_sets n l i [] h = refl
drop_sets n l i (x ∷ xs) h = drop_sets n (set l i x) (suc i) xs (omega arith) ∙ drop-set-lt n l i x (omega arith)

-- ---- writes put together

-- one write, and then one behind it, is a write of the two together
pub after : {b c e : List ℕ} {i j : ℕ} {xs ys : List ℕ} → Wrote b i xs c → Wrote c j ys e → j ≡ i + length xs → Wrote b i (xs ++ ys) e
after {b} {i = i} {xs = xs} {ys} p q place = record { is = q.is ∙ rw (p.is, place) (sets_append b i xs ys) }

-- nothing is written; all of it lies past the end
pub nothing : {b : List ℕ} {i : ℕ} → Wrote b i [] b
nothing = record { is = refl }

pub past : {b : List ℕ} {i : ℕ} {xs : List ℕ} → length b ≤ i → Wrote b i xs b
past {b} {i} {xs} h = record { is = sym (sets_out b i xs h) }

-- bytes written one by one: one more of them
pub more_bytes : {b c e : List ℕ} {at j : ℕ} (xs : List ℕ) (i d : ℕ) → i < length xs → Wrote b at (take i xs) c → Wrote c j (get_or xs i d ∷ []) e → j ≡ at + i
    → Wrote b at (take (i + 1) xs) e
more_bytes xs i d h p q place = let n : length (take i xs) ≡ i = length-take-le i xs (omega arith) in rw (add-one, take-suc xs i d) (after p q (rw n place))

-- the same place, put another way
pub placed : {b e : List ℕ} {i j : ℕ} {xs : List ℕ} → Wrote b i xs e → i ≡ j → Wrote b j xs e
placed w place = rw place at w

-- ---- what a write leaves

module _ {b e : List ℕ} {i : ℕ} {xs : List ℕ} (w : Wrote b i xs e) where
  pub wrote-length : length e ≡ length b
  wrote-length = ap length w.is ∙ length-sets b i xs

  -- before its place and behind what was written all stays, whether or not there was room
  pub wrote_before : (n : ℕ) → n ≤ i → take n e ≡ take n b
  wrote_before n h = ap (take n) w.is ∙ take_sets n b i xs h

  pub wrote-behind : (n : ℕ) → i + length xs ≤ n → drop n e ≡ drop n b
  wrote-behind n h = ap (drop n) w.is ∙ drop_sets n b i xs h

  -- where there was room: the whole, and what stands at the place
  pub wrote_parts : i + length xs ≤ length b → e ≡ take i b ++ xs ++ drop (i + length xs) b
  wrote_parts h = w.is ∙ sets-eq xs b i h

  pub wrote_there : i + length xs ≤ length b → take (length xs) (drop i e) ≡ xs
  wrote_there h =
      let rest = drop (i + length xs) b in
      rw (wrote_parts h, append_assoc (take i b) xs rest, drop_at (take i b) (xs ++ rest) i (length-take-le i b (omega arith))) (take-append_seam xs rest)

  -- no other list is left by the same write
  pub wrote-once : {e' : List ℕ} → Wrote b i xs e' → e ≡ e'
  wrote-once w' = w.is ∙ sym w'.is
