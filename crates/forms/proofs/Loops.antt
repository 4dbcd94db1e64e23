-- What a loop keeps that writes the n slots of an array one behind the other; and what it is to test each of n places.
use mathlib.Core.Path.{◌≡◌, refl, ap, sym, ◌∙◌}
use mathlib.Core.Bool.{Bool, ◌&&◌}
use Rattle.std.proofs.Math.Bool.{and_assoc, and-true}
use mathlib.Core.List.{List}
use Prim.Native.Nat.{ℕ, zero, suc, ◌+◌, ◌*◌, ◌≤◌, ◌<◌, zero-le}
use native.Mathlib.Nat.{add-zero}
use native.Mathlib.Omega.{arith}
use lib.ListN.{length, get_or, take}
use Rattle.std.specs.List.{list_all, range_with_len}
use Rattle.words.specs.Wrote.{Wrote}
use Rattle.words.specs.Arrays.{each}
use Rattle.words.proofs.Wrote.{wrote-length}
use Rattle.words.proofs.Arrays.{none, more}
use Rattle.forms.specs.Stored.{all as all_of}

-- e is b with the first i of the n elements of xs written from `at` on
pub record Writing {A : Type 0} (f : A → List ℕ) (n : ℕ) (xs : List A) (b : List ℕ) (at : ℕ) (e : List ℕ) (i : ℕ) : Type 0 where
  pub wrote : Wrote b at (each f (take i xs)) e
  pub room : i ≤ n
  pub many : length xs ≡ n
  pub same : length e ≡ length b

module _ {A : Type 0} {f : A → List ℕ} {n : ℕ} {xs : List A} {b : List ℕ} {at : ℕ} where
  pub writing_start : length xs ≡ n → Writing f n xs b at b 0
  writing_start l = record { wrote = none f; room = zero-le; many = l; same = refl }

  pub writing_more : (k : ℕ) → ((x : A) → length (f x) ≡ k) → {e e' : List ℕ} {i : ℕ} (d : A) → Writing f n xs b at e i → i < n
      → Wrote e (at + i * k) (f (get_or xs i d)) e' → Writing f n xs b at e' (i + 1)
  writing_more k wide {i = i} d w h v = record {
    wrote = more f k wide xs i d (rw w.many h) w.wrote v refl;
    room = omega arith;
    many = w.many;
    same = wrote-length v ∙ w.same;
  }

-- a test of each place below n: that of the first, and then those of the others
all-first : (f h : ℕ → Bool) (n : ℕ) → ((j : ℕ) → f (suc j) ≡ h j) → all_of f (suc n) ≡ f 0 && all_of h n
unfolding all_of
all-first f h zero e = sym (and-true (f 0))
all-first f h (suc n) e = rw (all-first f h n e, e n, and_assoc)

-- the library's `all` over the numbers from a on asks the same
pub all_listed : (f h : ℕ → Bool) (a n : ℕ) → ((j : ℕ) → f (a + j) ≡ h j) → list_all f (range_with_len a n) ≡ all_of h n
unfolding all_of
all_listed f h a zero e = refl
all_listed f h a (suc n) e =
    let here : f a ≡ h 0 = rw add-zero at (e 0) in
    let others : list_all f (range_with_len (a + 1) n) ≡ all_of (λ j. h (suc j)) n = all_listed f _ (a + 1) n (λ j. ap f (omega arith) ∙ e (suc j)) in
    rw (here, others) (sym (all-first h (λ j. h (suc j)) n (λ j. refl)))
