-- Stored forms: how a thing is written in bytes and read again, and that each undoes the other.
-- A form is built as the thing is: numbers (`form8`, `form16`, `form32` of `Width`) and bytes that mean nothing here (`raw`), one behind
-- the other (`_then_`), with bytes that are always the same (`fixed`), many of a kind (`array`), and a struct or an enum over what it is
-- stored as (`via`). `Example` has one. The two round trips, `load-save` and `save-load`, hold of every form.
use mathlib.Core.Path.{◌≡◌, refl, ap, sym, ◌∙◌}
use mathlib.Core.List.{List, [], ◌∷◌, ◌++◌}
use Prim.Native.Nat.{ℕ, zero, suc, ◌+◌, ◌*◌, ◌≤◌, ◌<◌}
use native.Mathlib.Nat.{add_assoc, add_comm, add-zero, zero-mul, suc-mul}
use native.Mathlib.Omega.{arith}
use lib.ListN.{length, length-append}
use lib.Seq.{take_all}
use Rattle.words.specs.Numbers.{Bytes}
use Rattle.words.specs.Wrote.{Wrote}
use Rattle.words.specs.Arrays.{each, tab}
use Rattle.words.proofs.Wrote.{wrote_there}
use Rattle.words.proofs.Arrays.{each-length, each-one_more, tab-first}
use Rattle.forms.proofs.Part.{part, part_join, part_front, part_back}

-- f x are the k bytes of x, and g s i is what stands at place i of s.
-- `Fit` says of which things (an array must have its length), and `Ok` of which bytes (those that nobody uses must be zero).
pub record Form {A : Type 0} (Fit : A → Type 0) (Ok : List ℕ → ℕ → Type 0) (k : ℕ) (f : A → List ℕ) (g : List ℕ → ℕ → A) : Type 0 where
  pub wide : (x : A) → Fit x → length (f x) ≡ k
  pub reads : (s : List ℕ) (i : ℕ) (x : A) → Fit x → part s i k ≡ f x → g s i ≡ x
  pub keeps : (s : List ℕ) (i : ℕ) → Bytes s → i + k ≤ length s → Ok s i → f (g s i) ≡ part s i k

-- anything fits; any bytes will do
abbrev pub AnyThing : {A : Type 0} → A → Type 0
AnyThing x = Unit {0}

abbrev pub AnyBytes : List ℕ → ℕ → Type 0
AnyBytes s i = Unit {0}

-- n bytes as they are
pub raw : (n : ℕ) → Form (λ xs. length xs ≡ n) AnyBytes n (λ xs. xs) (λ s i. part s i n)
raw n = record { wide = λ xs l. l; reads = λ s i xs l e. e; keeps = λ s i b l o. refl }

module _ {A : Type 0} {Fit : A → Type 0} {Ok : List ℕ → ℕ → Type 0} {k : ℕ} {f : A → List ℕ} {g : List ℕ → ℕ → A} (F : Form Fit Ok k f g) where
  -- ---- the two round trips

  -- what is saved loads again: from its bytes alone, and from a buffer that had room for them
  pub load-save : (x : A) → Fit x → g (f x) 0 ≡ x
  load-save x h = F.reads (f x) 0 x h (take_all k (f x) (omega (arith, F.wide x h)))

  pub load-wrote : {b e : List ℕ} {i : ℕ} (x : A) → Fit x → Wrote b i (f x) e → i + k ≤ length b → g e i ≡ x
  load-wrote {e = e} {i} x h w l = F.reads e i x h (rw (F.wide x h) at (wrote_there w (rw (F.wide x h) l)))

  -- what is loaded saves as the bytes that it was
  pub save-load : (s : List ℕ) → Bytes s → length s ≡ k → Ok s 0 → f (g s 0) ≡ s
  save-load s b l o = F.keeps s 0 b (omega arith) o ∙ take_all k s (omega arith)

  -- ---- forms made of forms

  -- the same form, where its bytes and its reading are spelled in another way
  pub like : {f' : A → List ℕ} {g' : List ℕ → ℕ → A} → ((x : A) → f' x ≡ f x) → ((s : List ℕ) (i : ℕ) → g' s i ≡ g s i)
      → Form Fit Ok k f' g'
  like {g' = g'} p q = record {
    wide = λ x h. ap length (p x) ∙ F.wide x h;
    reads = λ s i x h e. q s i ∙ F.reads s i x h (e ∙ p x);
    keeps = λ s i b l o. p (g' s i) ∙ ap f (q s i) ∙ F.keeps s i b l o;
  }

  -- a thing y that is stored as `from y`, and that `to` makes of what is read
  pub via : {B : Type 0} {Fit' : B → Type 0} {Ok' : List ℕ → ℕ → Type 0} (to : A → B) (from : B → A)
      → ((y : B) → Fit' y → Fit (from y) × (to (from y) ≡ y))
      → ((s : List ℕ) (i : ℕ) → Ok' s i → Ok s i × (from (to (g s i)) ≡ g s i))
      → Form Fit' Ok' k (λ y. f (from y)) (λ s i. to (g s i))
  via to from back again = record {
    wide = λ y h. F.wide (from y) (back y h).0;
    reads = λ s i y h e. ap to (F.reads s i (from y) (back y h).0 e) ∙ (back y h).1;
    keeps = λ s i b l o. ap f (again s i o).1 ∙ F.keeps s i b l (again s i o).0;
  }

  -- bytes that are always those of x: they say nothing, and have to be checked
  pub fixed : (x : A) → Fit x → Form AnyThing (λ s i. Ok s i × (g s i ≡ x)) k (λ (u : Unit {0}). f x) (λ s i. tt)
  fixed x h = record {
    wide = λ u t. F.wide x h;
    reads = λ s i u t e. refl;
    keeps = λ s i b l o. rw o.1 at (F.keeps s i b l o.0);
  }

  -- n of them, one behind the other
  module _ (fit : (x : A) → Fit x) where
    array-reads : (s : List ℕ) (i : ℕ) (xs : List A) → part s i (length xs * k) ≡ each f xs → tab (λ j. g s (i + j * k)) (length xs) ≡ xs
    unfolding each tab
    array-reads s i [] e = refl
    array-reads s i (x ∷ xs) e =
        let w = F.wide x (fit x) in
        let e' : part s i (k + length xs * k) ≡ f x ++ each f xs = rw (suc-mul, add_comm) at e in
        let first : g s (i + 0 * k) ≡ x = rw (zero-mul, add-zero) (F.reads s i x (fit x) (part_front s i k (length xs * k) (f x) (each f xs) w e')) in
        let others = array-reads s (i + k) xs (part_back s i k (length xs * k) (f x) (each f xs) w e') in
        let next : (j : ℕ) → g s (i + suc j * k) ≡ g s (i + k + j * k) = λ j. ap (g s) (omega arith) in
        tab-first (λ j. g s (i + j * k)) (λ j. g s (i + k + j * k)) (length xs) next ∙ λ t. first t ∷ others t

    array_keeps : (s : List ℕ) (i n : ℕ) → Bytes s → i + n * k ≤ length s → ((j : ℕ) → j < n → Ok s (i + j * k))
        → each f (tab (λ j. g s (i + j * k)) n) ≡ part s i (n * k)
    unfolding each tab
    array_keeps s i zero b l o = rw zero-mul
    array_keeps s i (suc n) b l o =
        let l' : i + n * k + k ≤ length s = rw (suc-mul, ← add_assoc) at l in
        let before = array_keeps s i n b (omega arith) (λ j h. o j (omega arith)) in
        let last = F.keeps s (i + n * k) b l' (o n (omega arith)) in
        each-one_more f (tab (λ j. g s (i + j * k)) n) (g s (i + n * k)) ∙ rw (before, last, suc-mul) (sym (part_join s i (n * k) k))

    pub array : (n : ℕ)
        → Form (λ xs. length xs ≡ n) (λ s i. (j : ℕ) → j < n → Ok s (i + j * k)) (n * k) (each f) (λ s i. tab (λ j. g s (i + j * k)) n)
    array n = record {
      wide = λ xs l. rw l at (each-length f k (λ x. F.wide x (fit x)) xs);
      reads = λ s i xs l e. rw l at (array-reads s i xs (rw l e));
      keeps = λ s i b l o. array_keeps s i n b l o;
    }

-- one thing, and another behind it
module _ {A B : Type 0} {Fit : A → Type 0} {Fit' : B → Type 0} {Ok Ok' : List ℕ → ℕ → Type 0} {k m : ℕ}
    {f : A → List ℕ} {f' : B → List ℕ} {g : List ℕ → ℕ → A} {g' : List ℕ → ℕ → B} where
  infixl 40 ◌then◌
  pub ◌then◌ : Form Fit Ok k f g → Form Fit' Ok' m f' g'
      → Form (λ (p : A × B). Fit p.0 × Fit' p.1) (λ s i. Ok s i × Ok' s (i + k)) (k + m)
      (λ p. f p.0 ++ f' p.1) (λ s i. (g s i, g' s (i + k)))
  ◌then◌ F G = record {
    wide = λ p h. rw (length-append, F.wide p.0 h.0, G.wide p.1 h.1);
    reads = λ s i p h e t.
        let w = F.wide p.0 h.0 in
        let one = part_front s i k m (f p.0) (f' p.1) w e in
        let other = part_back s i k m (f p.0) (f' p.1) w e in
        (F.reads s i p.0 h.0 one t, G.reads s (i + k) p.1 h.1 other t);
    keeps = λ s i b l o. rw (F.keeps s i b (omega arith) o.0, G.keeps s (i + k) b (omega arith) o.1) (sym (part_join s i k m));
  }
