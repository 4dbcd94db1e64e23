-- A part of a list of bytes, cut in two and joined.
use mathlib.Core.Path.{◌≡◌, ap, sym, ◌∙◌}
use mathlib.Core.List.{List, [], ◌∷◌, ◌++◌}
use Prim.Native.Nat.{ℕ, zero, suc, ◌+◌, ◌≤◌}
use native.Mathlib.Omega.{arith}
use lib.ListN.{length, take, drop, length-drop}
use lib.Seq.{take-add, take-take, drop-drop, take_at, drop_at, length-take-le, get_or-drop}
use Rattle.words.specs.Numbers.{Bytes}

-- the k bytes of s from place i on
abbrev pub part : List ℕ → ℕ → ℕ → List ℕ
part s i k = take k (drop i s)

module _ (s : List ℕ) (i : ℕ) where
  pub part_length : (k : ℕ) → i + k ≤ length s → length (part s i k) ≡ k
  part_length k h = length-take-le k (drop i s) (rw length-drop (omega arith))

  pub part_join : (a b : ℕ) → part s i (a + b) ≡ part s i a ++ part s (i + a) b
  part_join a b = take-add a b (drop i s) ∙ rw (drop-drop a i s)

  -- a part that is xs and then ys
  module _ (a b : ℕ) (xs ys : List ℕ) (n : length xs ≡ a) (e : part s i (a + b) ≡ xs ++ ys) where
    pub part_front : part s i a ≡ xs
    part_front = sym (take-take a (a + b) (drop i s) (omega arith)) ∙ ap (take a) e ∙ take_at xs ys a n

    pub part_back : part s (i + a) b ≡ ys
    part_back =
        let whole : xs ++ part s (i + a) b ≡ xs ++ ys = cc (part_front, part_join a b) in
        sym (drop_at xs (part s (i + a) b) a n) ∙ ap (drop a) whole ∙ drop_at xs ys a n

bytes_take : (k : ℕ) (s : List ℕ) → Bytes s → Bytes (take k s)
bytes_take zero s b i = omega arith
bytes_take (suc k) [] b i = omega arith
bytes_take (suc k) (x ∷ s) b zero = b 0
bytes_take (suc k) (x ∷ s) b (suc i) = bytes_take k s (λ j. b (suc j)) i

-- a part of bytes is bytes
pub part_bytes : (s : List ℕ) (i k : ℕ) → Bytes s → Bytes (part s i k)
part_bytes s i k b = bytes_take k (drop i s) (λ j. rw get_or-drop (b (i + j)))
