-- Little-endian numbers of any width: the k bytes of a number, the number of k bytes, and that each undoes the other.
-- The numbers of one, two and four bytes of the contracts are the cases 1, 2 and 4.
use mathlib.Core.Path.{◌≡◌, refl, ap, ◌∙◌}
use mathlib.Core.List.{List, [], ◌∷◌}
use Prim.Native.Nat.{ℕ, zero, suc, ◌+◌, ◌*◌, ◌/◌, ◌%◌, ◌<◌, ◌^◌}
use native.Mathlib.Nat.{add-zero, add_assoc, suc-add}
use native.Mathlib.Omega.{arith}
use lib.ListN.{length, get_or}
use lib.Seq.{take-nil, drop-nil}
use Rattle.words.specs.Numbers.{le8, le16, le32, at8, at16, at32, Bytes}
use Rattle.forms.proofs.Part.{part, part_length, part_bytes}
use Rattle.forms.proofs.Form.{Form, AnyThing, AnyBytes, like}

-- the k bytes of v, the lowest first; the last takes all that is left, so that nothing is lost of a number that does not fit
unfoldable pub le : ℕ → ℕ → List ℕ
le zero v = []
le (suc zero) v = v ∷ []
le (suc (suc k)) v = v % 256 ∷ le (suc k) (v / 256)

-- the number of some bytes
unfoldable pub unle : List ℕ → ℕ
unle [] = 0
unle (b ∷ bs) = b + unle bs * 256

pub length_le : (k v : ℕ) → length (le k v) ≡ k
unfolding le
length_le zero v = refl
length_le (suc zero) v = refl
length_le (suc (suc k)) v = ap suc (length_le (suc k) (v / 256))

-- a number that fits has bytes
pub le_bytes : (k v : ℕ) → v < 256 ^ k → Bytes (le k v)
unfolding le
le_bytes zero v h i = omega arith
le_bytes (suc zero) v h zero = omega arith
le_bytes (suc zero) v h (suc i) = omega arith
le_bytes (suc (suc k)) v h zero = omega arith
le_bytes (suc (suc k)) v h (suc i) = le_bytes (suc k) (v / 256) (omega arith) i

pub unle_le : (k v : ℕ) → unle (le (suc k) v) ≡ v
unfolding le unle
unle_le zero v = omega arith
unle_le (suc k) v = rw (unle_le k (v / 256)) (omega arith)

pub le_unle : (bs : List ℕ) → Bytes bs → le (length bs) (unle bs) ≡ bs
unfolding le unle
le_unle [] b = refl
le_unle (x ∷ []) b = rw add-zero
le_unle (x ∷ y ∷ bs) b =
    let u = unle (y ∷ bs) in
    let low : (x + u * 256) % 256 ≡ x = omega (arith, b 0) in
    let high : (x + u * 256) / 256 ≡ u = omega (arith, b 0) in
    rw (low, high) (ap (λ (l : List ℕ). x ∷ l) (le_unle (y ∷ bs) (λ i. b (suc i))))

-- the number whose k bytes stand at place i; where s has ended, zeros are read
unfoldable pub number_at : ℕ → List ℕ → ℕ → ℕ
number_at k s i = unle (part s i k)

-- the lowest byte, and the number that stands behind it
number_at_suc : (k : ℕ) (s : List ℕ) (i : ℕ) → number_at (suc k) s i ≡ get_or s i 0 + number_at k s (i + 1) * 256
unfolding number_at unle
number_at_suc k [] i = rw (drop-nil i, drop-nil (i + 1), take-nil k)
number_at_suc k (x ∷ s) zero = refl
number_at_suc k (x ∷ s) (suc i) = rw (suc-add i 1) (number_at_suc k s i)

pub number : (k : ℕ) → Form AnyThing AnyBytes (suc k) (le (suc k)) (number_at (suc k))
unfolding number_at
number k = record {
  wide = λ v h. length_le (suc k) v;
  reads = λ s i v h e. ap unle e ∙ unle_le k v;
  keeps = λ s i b l o. rw (part_length s i (suc k) l) at (le_unle (part s i (suc k)) (part_bytes s i (suc k) b));
}

-- ---- the widths of the contracts

pub le8-is : (v : ℕ) → le8 v ≡ le 1 v
unfolding le
le8-is v = refl

pub le16-is : (v : ℕ) → le16 v ≡ le 2 v
unfolding le
le16-is v = refl

pub le32-is : (v : ℕ) → le32 v ≡ le 4 v
unfolding le
le32-is v =
    let c : v / 65536 % 256 ≡ v / 256 / 256 % 256 = omega arith in
    let d : v / 16777216 ≡ v / 256 / 256 / 256 = omega arith in
    rw (c, d)

pub at8-is : (s : List ℕ) (i : ℕ) → at8 s i ≡ number_at 1 s i
unfolding number_at unle
at8-is s i = rw number_at_suc (omega arith)

pub at16-is : (s : List ℕ) (i : ℕ) → at16 s i ≡ number_at 2 s i
at16-is s i = rw (number_at_suc 1, ← (at8-is s (i + 1)))

pub at32-is : (s : List ℕ) (i : ℕ) → at32 s i ≡ number_at 4 s i
at32-is s i = rw (number_at_suc 3, number_at_suc 2, ← (at16-is s (i + 1 + 1)), add_assoc i 1 1, add_assoc i 2 1) (omega arith)

pub form8 : Form AnyThing AnyBytes 1 le8 at8
form8 = like (number 0) le8-is at8-is

pub form16 : Form AnyThing AnyBytes 2 le16 at16
form16 = like (number 1) le16-is at16-is

pub form32 : Form AnyThing AnyBytes 4 le32 at32
form32 = like (number 3) le32-is at32-is
