-- A loop that fills an array from the front keeps `Filling`.
use mathlib.Core.Path.{◌≡◌, refl, sym, ap, subst, ◌∙◌}
use mathlib.Core.List.{List, [], ◌∷◌, ◌++◌, append_assoc, append-nil}
use Prim.Native.Nat.{ℕ, ◌+◌, ◌<◌}
use native.Mathlib.Omega.{arith}
use lib.ListN.{length, set, replicate, length-append}
use Rattle.slots.specs.Slots.{padded}
use Rattle.slots.proofs.Padded.{padded-nil, padded_push}

-- `whole` is what is to be put, `rest` what is left of it, `out` the array so far, and j how many are put
pub record Filling {A : Type 0} (n : ℕ) (z : A) (whole rest out : List A) (j : ℕ) : Type 0 where
  pub done : List A
  pub parts : whole ≡ done ++ rest
  pub held : out ≡ padded n z done
  pub many : j ≡ length done

module _ {A : Type 0} {n : ℕ} {z : A} {whole : List A} where
  pub filling_start : Filling n z whole whole (replicate n z) 0
  filling_start = record { done = []; parts = refl; held = sym (padded-nil z n); many = refl }

  -- where the free slot is what a call gave
  pub filling_from : {d : A} → d ≡ z → Filling n z whole whole (replicate n d) 0
  filling_from {d} e = subst (λ (x : A). Filling n z whole whole (replicate n x) 0) (sym e) filling_start

  -- nothing is put this turn
  pub filling_skip : {rest rest' out : List A} {j : ℕ} → Filling n z whole rest out j → rest ≡ rest' → Filling n z whole rest' out j
  filling_skip f e = record { done = f.done; parts = rw e at f.parts; held = f.held; many = f.many }

  -- one more is put
  pub filling_more : {rest rest' out : List A} {j : ℕ} {a : A} → Filling n z whole rest out j → rest ≡ a ∷ rest' → j < n → Filling n z whole rest' (set out j a) (j + 1)
  filling_more {rest'} {out} {j} {a} f e h =
      record {
        done = f.done ++ (a ∷ []);
        parts = f.parts ∙ ap (λ (l : List A). f.done ++ l) e ∙ sym (append_assoc f.done (a ∷ []) rest');
        held = ap (λ (l : List A). set l j a) f.held ∙ ap (λ (i : ℕ). set (padded n z f.done) i a) f.many ∙ padded_push z n f.done a (subst (λ (i : ℕ). i < n) f.many h);
        many = omega (arith, length-append f.done (a ∷ []), f.many);
      }

  -- the same count, put another way
  pub filling_as : {rest out : List A} {j k : ℕ} → Filling n z whole rest out j → j ≡ k → Filling n z whole rest out k
  filling_as f e = record { done = f.done; parts = f.parts; held = f.held; many = sym e ∙ f.many }

  -- all is put
  pub filling_end : {rest out : List A} {j : ℕ} → Filling n z whole rest out j → rest ≡ [] → out ≡ padded n z whole
  filling_end f e = f.held ∙ ap (padded n z) (sym (f.parts ∙ ap (λ (l : List A). f.done ++ l) e ∙ append-nil f.done))
