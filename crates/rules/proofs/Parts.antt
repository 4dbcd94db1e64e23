-- Parts of a list: what is left of it, in its order, when some leave it.
use mathlib.Core.Bool.{Bool, ◌||◌, false, true}
use mathlib.Core.List.{List, [], ◌++◌, ◌∷◌}
use mathlib.Core.Path.{◌∙◌, ◌≡◌, ap, sym}
use Prim.Native.Nat.{◌≤◌, suc-le-suc, zero-le}
use lib.ListN.{length}
use native.Mathlib.Nat.{le_refl}
use native.Mathlib.Omega.{arith}
use Rattle.slots.proofs.Lists.{any_here, any-later, any-nil, keep_in, keep-nil, keep_out, without_here, without-later, without-nil}
use Rattle.slots.specs.Slots.{any, count, keep, without}
use Rattle.rules.proofs.Choices.{by_cases, clash, pick_case}
use Rattle.rules.proofs.Lists.{All, any_append, count-append}

-- ---- a part of a list, in its order

pub data Part {X : Type 0} : List X → List X → Type 0 where
  nil : Part [] []
  leaves : {x : X} {s t : List X} → Part s t → Part s (x ∷ t)
  stays : {x : X} {s t : List X} → Part s t → Part (x ∷ s) (x ∷ t)

module _ {X : Type 0} where
  pub all-each {κ} : (P : X → Type κ) → ((x : X) → P x) → (s : List X) → All P s
  all-each P f [] = tt
  all-each P f (x ∷ s) = (f x, all-each P f s)

  pub all-zip {κ ι ν} : (P : X → Type κ) (Q : X → Type ι) (R : X → Type ν) → ((x : X) → P x → Q x → R x) → (s : List X) → All P s → All Q s → All R s
  all-zip P Q R f [] a b = tt
  all-zip P Q R f (x ∷ s) a b = (f x a.0 b.0, all-zip P Q R f s a.1 b.1)

  pub part_self : (s : List X) → Part s s
  part_self [] = nil
  part_self (x ∷ s) = stays (part_self s)

  pub part_keep : (t : X → Bool) (s : List X) → Part (keep t s) s
  unfolding keep
  part_keep t [] = nil
  part_keep t (x ∷ s) = pick_case (λ (l : List X). Part l (x ∷ s)) (t x) (x ∷ keep t s) (keep t s) (λ _. stays (part_keep t s)) (λ _. leaves (part_keep t s))

  pub part_without : (t : X → Bool) (s : List X) → Part (without t s) s
  unfolding without
  part_without t [] = nil
  part_without t (x ∷ s) = pick_case (λ (l : List X). Part l (x ∷ s)) (t x) s (x ∷ without t s) (λ _. leaves (part_self s)) (λ _. stays (part_without t s))

  pub part_append : {s t : List X} → Part s t → (u : List X) → Part (s ++ u) (t ++ u)
  part_append nil u = part_self u
  part_append (leaves r) u = leaves (part_append r u)
  part_append (stays r) u = stays (part_append r u)

  pub part_all {κ} : (P : X → Type κ) {s t : List X} → Part s t → All P t → All P s
  part_all P nil a = tt
  part_all P (leaves r) a = part_all P r a.1
  part_all P (stays r) a = (a.0, part_all P r a.1)

  pub part_length : {s t : List X} → Part s t → length s ≤ length t
  part_length nil = zero-le
  part_length (leaves r) = let k = part_length r in omega arith
  part_length (stays r) = suc-le-suc (part_length r)

  pub part_count : (p : X → Bool) {s t : List X} → Part s t → count p s ≤ count p t
  part_count p nil = le_refl (count p [])
  part_count p (leaves {x} {s} {t} r) = let k = part_count p r in let c = count-append p (x ∷ []) t in omega arith
  part_count p (stays {x} {s} {t} r) = let k = part_count p r in let c = count-append p (x ∷ []) t in let d = count-append p (x ∷ []) s in omega arith

  -- those that are kept passed the test
  pub keep-each {κ ι} : (P : X → Type κ) (Q : X → Type ι) (t : X → Bool) → ((x : X) → t x ≡ true → P x → Q x) → (s : List X) → All P s → All Q (keep t s)
  unfolding keep
  keep-each P Q t f [] a = tt
  keep-each P Q t f (x ∷ s) a = pick_case (All Q) (t x) (x ∷ keep t s) (keep t s) (λ q. (f x q a.0, keep-each P Q t f s a.1)) (λ _. keep-each P Q t f s a.1)

  -- ---- which part

  pub keep_all : (t : X → Bool) (s : List X) → All (λ x. t x ≡ true) s → keep t s ≡ s
  keep_all t [] a = keep-nil t
  keep_all t (x ∷ s) a = keep_in t x s a.0 ∙ ap (λ (l : List X). x ∷ l) (keep_all t s a.1)

  -- the first that passes is in the first list, or is the last of all
  pub without-left : (t : X → Bool) (s u : List X) → any t s ≡ true → without t (s ++ u) ≡ without t s ++ u
  without-left t [] u h = clash h (any-nil t)
  without-left t (x ∷ s) u h =
      by_cases (t x)
      (λ q. without_here t x (s ++ u) q ∙ ap (λ (l : List X). l ++ u) (sym (without_here t x s q)))
      (λ q. without-later t x (s ++ u) q ∙ ap (λ (l : List X). x ∷ l) (without-left t s u (sym (any-later t x s q) ∙ h)) ∙ ap (λ (l : List X). l ++ u) (sym (without-later t x s q)))

  pub without-last : (t : X → Bool) (s : List X) (y : X) → any t s ≡ false → t y ≡ true → without t (s ++ (y ∷ [])) ≡ s
  without-last t [] y h k = without_here t y [] k
  without-last t (x ∷ s) y h k =
      by_cases (t x)
      (λ q. clash (any_here t x s q) h)
      (λ q. without-later t x (s ++ (y ∷ [])) q ∙ ap (λ (l : List X). x ∷ l) (without-last t s y (sym (any-later t x s q) ∙ h) k))

  -- a test that none of those passes that leave
  pub any-without : (p t : X → Bool) → ((x : X) → t x ≡ true → p x ≡ false) → (s : List X) → any p (without t s) ≡ any p s
  any-without p t n [] = ap (any p) (without-nil t)
  any-without p t n (x ∷ s) =
      by_cases (t x)
      (λ q. ap (any p) (without_here t x s q) ∙ sym (any-later p x s (n x q)))
      (λ q. ap (any p) (without-later t x s q) ∙ any_append p (x ∷ []) (without t s) ∙ ap (λ (b : Bool). any p (x ∷ []) || b) (any-without p t n s) ∙ sym (any_append p (x ∷ []) s))

  pub any-keep : (p t : X → Bool) → ((x : X) → t x ≡ false → p x ≡ false) → (s : List X) → any p (keep t s) ≡ any p s
  any-keep p t n [] = ap (any p) (keep-nil t)
  any-keep p t n (x ∷ s) =
      by_cases (t x)
      (λ q. ap (any p) (keep_in t x s q) ∙ any_append p (x ∷ []) (keep t s) ∙ ap (λ (b : Bool). any p (x ∷ []) || b) (any-keep p t n s) ∙ sym (any_append p (x ∷ []) s))
      (λ q. ap (any p) (keep_out t x s q) ∙ any-keep p t n s ∙ sym (any-later p x s (n x q)))

  -- one that passes, with what holds of all
  pub all_any {κ ι} : (P : X → Type κ) (t : X → Bool) (R : Type ι) → ((x : X) → t x ≡ true → P x → R) → (s : List X) → All P s → any t s ≡ true → R
  all_any P t R f [] a h = clash h (any-nil t)
  all_any P t R f (x ∷ s) a h = by_cases (t x) (λ q. f x q a.0) (λ q. all_any P t R f s a.1 (sym (any-later t x s q) ∙ h))
