-- A stored form is lawful: what is written is read again and may stand there, and bytes that may stand there are written again as they were.
-- Each way of putting forms together keeps that, so a layout is lawful as it is built.
use mathlib.Core.Path.{◌≡◌, refl}
use mathlib.Core.Bool.{Bool, true, false}
use mathlib.Core.List.{List, [], ◌∷◌, ◌++◌}
use Prim.Native.Nat.{ℕ, zero, suc, ◌+◌, ◌*◌, ◌<◌}
use native.Mathlib.Omega.{arith}
use native.Mathlib.Nat.{le_of_suc-le-suc, eq-or-lt_of_le, suc-mul, add_comm, zero-mul, add-zero, add_assoc}
use mathlib.Core.Logic.{⊎_elim}
use borrow.Author.Tests.{eqb-true, eq-eqb, ltb-true}
use lib.Dec.{eqb, ltb}
use lib.ListN.{length}
use Rattle.slots.proofs.Tests.{and_true, both}
use Rattle.words.specs.Arrays.{each}
use Rattle.forms.proofs.Part.{part, part_front, part_back}
use Rattle.forms.proofs.Form.{Form, AnyThing, via}
use Rattle.forms.proofs.Form as F
use Rattle.forms.proofs.Width.{form8, form16, form32}
use Rattle.forms.specs.Stored.{Stored, byte, half, word, always, ◌then◌, all, array as array_of, stored_as, flag, flag_number}

pub record Lawful {A : Type 0} (S : Stored A) (Fit : A → Type 0) : Type 0 where
  pub form : Form Fit (λ s i. S.fine s i ≡ true) S.size S.bytes S.at
  pub passes : (s : List ℕ) (i : ℕ) (x : A) → Fit x → part s i S.size ≡ S.bytes x → S.fine s i ≡ true

-- the same bytes, under another test of them
retested : {A : Type 0} {Fit : A → Type 0} {Ok Ok' : List ℕ → ℕ → Type 0} {k : ℕ} {f : A → List ℕ} {g : List ℕ → ℕ → A} → Form Fit Ok k f g
    → ((s : List ℕ) (i : ℕ) → Ok' s i → Ok s i) → Form Fit Ok' k f g
retested F h = via F (λ x. x) (λ x. x) (λ y k. (k, refl)) (λ s i o. (h s i o, refl))

pub byte_lawful : Lawful byte AnyThing
byte_lawful = record { form = retested form8 (λ s i o. tt); passes = λ s i x h e. refl }

pub half_lawful : Lawful half AnyThing
half_lawful = record { form = retested form16 (λ s i o. tt); passes = λ s i x h e. refl }

pub word_lawful : Lawful word AnyThing
word_lawful = record { form = retested form32 (λ s i o. tt); passes = λ s i x h e. refl }

pub always_lawful : {S : Stored ℕ} → Lawful S AnyThing → (n : ℕ) → Lawful (always S n) AnyThing
always_lawful {S} L n = record {
  form = retested (F.fixed L.form n tt) (λ s i o. let h = and_true (S.fine s i) (eqb (S.at s i) n) o in (h.0, eqb-true _ _ h.1));
  passes = λ s i u h e. both (L.passes s i n tt e) (eq-eqb _ _ (L.form.reads s i n tt e));
}

module _ {A B : Type 0} {S : Stored A} {T : Stored B} {Fit : A → Type 0} {Fit' : B → Type 0} where
  infixl 40 ◌and_then◌
  pub ◌and_then◌ : Lawful S Fit → Lawful T Fit' → Lawful (S then T) (λ (p : A × B). Fit p.0 × Fit' p.1)
  ◌and_then◌ L M = record {
    form = retested (F.◌then◌ L.form M.form) (λ s i o. and_true (S.fine s i) (T.fine s (i + S.size)) o);
    passes = λ s i p h e.
        let w = L.form.wide p.0 h.0 in
        both (L.passes s i p.0 h.0 (part_front s i S.size T.size (S.bytes p.0) (T.bytes p.1) w e))
        (M.passes s (i + S.size) p.1 h.1 (part_back s i S.size T.size (S.bytes p.0) (T.bytes p.1) w e));
  }

-- where every thing can be stored
pub anything : {A : Type 0} {S : Stored A} {Fit : A → Type 0} → Lawful S Fit → ((x : A) → Fit x) → Lawful S AnyThing
anything L fit = record {
  form = via L.form (λ x. x) (λ x. x) (λ x h. (fit x, refl)) (λ s i o. (o, refl));
  passes = λ s i x h e. L.passes s i x (fit x) e;
}

-- what holds of each below n, tested or said
pub all-each : (f : ℕ → Bool) (n : ℕ) → all f n ≡ true → (j : ℕ) → j < n → f j ≡ true
unfolding all
all-each f zero h j l = absurd (omega arith)
all-each f (suc n) h j l =
    let e = and_true (all f n) (f n) h in
    ⊎_elim (λ k. rw k e.1) (λ k. all-each f n e.0 j k) (eq-or-lt_of_le (le_of_suc-le-suc l))

pub each_all : (f : ℕ → Bool) (n : ℕ) → ((j : ℕ) → j < n → f j ≡ true) → all f n ≡ true
unfolding all
each_all f zero h = refl
each_all f (suc n) h = both (each_all f n (λ j l. h j (omega arith))) (h n (omega arith))

-- n of them, where any of its things can be stored
module _ {A : Type 0} {S : Stored A} (L : Lawful S AnyThing) where
  -- the first, and the others
  module _ (s : List ℕ) (i : ℕ) (x : A) (xs : List A) (e : part s i (length (x ∷ xs) * S.size) ≡ each S.bytes (x ∷ xs)) where
    parts : part s i (S.size + length xs * S.size) ≡ S.bytes x ++ each S.bytes xs
    unfolding each
    parts = rw (suc-mul, add_comm) at e

    front : part s i S.size ≡ S.bytes x
    front = part_front s i S.size (length xs * S.size) (S.bytes x) (each S.bytes xs) (L.form.wide x tt) parts

    back : part s (i + S.size) (length xs * S.size) ≡ each S.bytes xs
    back = part_back s i S.size (length xs * S.size) (S.bytes x) (each S.bytes xs) (L.form.wide x tt) parts

  -- each of xs stands where it may
  each_passes : (s : List ℕ) (i : ℕ) (xs : List A) → part s i (length xs * S.size) ≡ each S.bytes xs → (j : ℕ) → j < length xs → S.fine s (i + j * S.size) ≡ true
  unfolding each
  each_passes s i [] e j l = absurd (omega arith)
  each_passes s i (x ∷ xs) e zero l = rw (zero-mul, add-zero) (L.passes s i x tt (front s i x xs e))
  each_passes s i (x ∷ xs) e (suc j) l = rw (suc-mul, add_comm (j * S.size), ← add_assoc) (each_passes s (i + S.size) xs (back s i x xs e) j (le_of_suc-le-suc l))

  pub array_lawful : (n : ℕ) → Lawful (array_of n S) (λ xs. length xs ≡ n)
  array_lawful n = record {
    form = retested (F.array L.form (λ x. tt) n) (λ s i o j l. all-each (λ m. S.fine s (i + m * S.size)) n o j l);
    passes = λ s i xs l e. each_all (λ m. S.fine s (i + m * S.size)) n (λ j h. each_passes s i xs (rw l e) j (rw l h));
  }

module _ {A B : Type 0} {S : Stored A} {Fit : A → Type 0} (L : Lawful S Fit) where
  -- what is made of it: each thing is made again of what it is stored as, and what can be made into a thing is what that is stored as
  pub stored_as_lawful : {Fit' : B → Type 0} (to : A → B) (from : B → A) (may : A → Bool)
      → ((y : B) → Fit' y → Fit (from y) × (to (from y) ≡ y) × (may (from y) ≡ true))
      → ((x : A) → may x ≡ true → from (to x) ≡ x)
      → Lawful (stored_as S to from may) Fit'
  stored_as_lawful to from may back again = record {
    form = via L.form to from (λ y h. ((back y h).0, (back y h).1))
        (λ s i o. let h = and_true (S.fine s i) (may (S.at s i)) o in (h.0, again (S.at s i) h.1));
    passes = λ s i y h e.
        both (L.passes s i (from y) (back y h).0 e) (rw (L.form.reads s i (from y) (back y h).0 e) (back y h).2);
  }

flag-again : (n : ℕ) → ltb n 2 ≡ true → flag_number (eqb n 1) ≡ n
unfolding flag_number
flag-again zero h = refl
flag-again (suc zero) h = refl
flag-again (suc (suc n)) h = absurd (omega (arith, ltb-true (suc (suc n)) 2 h))

flag_back : (b : Bool) → (eqb (flag_number b) 1 ≡ b) × (ltb (flag_number b) 2 ≡ true)
unfolding flag_number
flag_back true = (refl, refl)
flag_back false = (refl, refl)

pub flag_lawful : Lawful flag AnyThing
flag_lawful = stored_as_lawful byte_lawful (λ n. eqb n 1) flag_number (λ n. ltb n 2) (λ b h. (tt, (flag_back b).0, (flag_back b).1)) flag-again
