-- What a loop over a list finds at place i, of a test p: the test holds there, or it does not; and what is left at the end.
use Rattle.std.proofs.Common.{◌≡◌, refl, sym, ap, ◌∙◌, ℕ, ◌+◌, ◌<◌, ◌≤◌, Bool, true, false, not, ◌&&◌, Some, None, List, [], ◌∷◌, length, get_or, drop, add-one, arith}
use lib.ListN.{drop_of_length-le}
use lib.Seq.{drop-cons}
use mathlib.Core.Bool.{false≢true}
use Rattle.std.specs.List.{list_all, find}
use Rattle.slots.specs.Slots.{pick, keep, without, any, every, folded}
use Rattle.slots.proofs.Lists.{keep-nil, keep_in, keep_out, without-nil, without_here, without-later, any-nil, any_here, any-later, every-nil, every_in, every_out, folded-nil, folded-cons}

module _ {A : Type 0} (p : A → Bool) (xs : List A) (i : ℕ) where
  module _ (x : A) (here : i < length xs) (is : x ≡ get_or xs i x) where
    pub one_more : drop i xs ≡ x ∷ drop (i + 1) xs
    one_more = rw (add-one, drop-cons xs i x here, sym is) refl

    pub keep_here : p x ≡ true → keep p (drop i xs) ≡ x ∷ keep p (drop (i + 1) xs)
    keep_here e = ap (keep p) one_more ∙ keep_in p x (drop (i + 1) xs) e

    pub keep_past : p x ≡ false → keep p (drop i xs) ≡ keep p (drop (i + 1) xs)
    keep_past e = ap (keep p) one_more ∙ keep_out p x (drop (i + 1) xs) e

    pub without_found : p x ≡ true → without p (drop i xs) ≡ drop (i + 1) xs
    without_found e = ap (without p) one_more ∙ without_here p x (drop (i + 1) xs) e

    pub without_past : p x ≡ false → without p (drop i xs) ≡ x ∷ without p (drop (i + 1) xs)
    without_past e = ap (without p) one_more ∙ without-later p x (drop (i + 1) xs) e

    pub any_found : p x ≡ true → any p (drop i xs) ≡ true
    any_found e = ap (any p) one_more ∙ any_here p x (drop (i + 1) xs) e

    pub any_past : p x ≡ false → any p (drop i xs) ≡ any p (drop (i + 1) xs)
    any_past e = ap (any p) one_more ∙ any-later p x (drop (i + 1) xs) e

    pub every_past : p x ≡ true → every p (drop i xs) ≡ every p (drop (i + 1) xs)
    every_past e = ap (every p) one_more ∙ every_in p x (drop (i + 1) xs) e

    pub every_broken : p x ≡ false → every p (drop i xs) ≡ false
    every_broken e = ap (every p) one_more ∙ every_out p x (drop (i + 1) xs) e

    pub find_found : p x ≡ true → find p (drop i xs) ≡ Some x
    find_found e = ap (find p) one_more ∙ rw e refl

    pub find_past : p x ≡ false → find p (drop i xs) ≡ find p (drop (i + 1) xs)
    find_past e = ap (find p) one_more ∙ rw e refl

    pub counted : (n : ℕ) → p x ≡ true → n + length (keep p (drop i xs)) ≡ n + 1 + length (keep p (drop (i + 1) xs))
    counted n e = omega (arith, ap length (keep_here e))

    pub passed_by : (n : ℕ) → p x ≡ false → n + length (keep p (drop i xs)) ≡ n + length (keep p (drop (i + 1) xs))
    passed_by n e = omega (arith, ap length (keep_past e))

  module _ (over : length xs ≤ i) where
    pub keep_over : keep p (drop i xs) ≡ []
    keep_over = ap (keep p) (drop_of_length-le xs over) ∙ keep-nil p

    pub without_over : without p (drop i xs) ≡ []
    without_over = ap (without p) (drop_of_length-le xs over) ∙ without-nil p

    pub any_over : any p (drop i xs) ≡ false
    any_over = ap (any p) (drop_of_length-le xs over) ∙ any-nil p

    pub every_over : every p (drop i xs) ≡ true
    every_over = ap (every p) (drop_of_length-le xs over) ∙ every-nil p

    pub find_over : find p (drop i xs) ≡ None
    find_over = ap (find p) (drop_of_length-le xs over)

-- each, as std says it
pub every_all : {A : Type 0} (p : A → Bool) (xs : List A) → list_all p xs ≡ every p xs
unfolding every
every_all p [] = refl
every_all p (x ∷ xs) = ap (λ (b : Bool). p x && b) (every_all p xs)

-- a step at place i
module _ {A B : Type 0} (f : B → A → B) (xs : List A) (i : ℕ) where
  pub folded_on : (x : A) → i < length xs → x ≡ get_or xs i x → (b : B) → folded f b (drop i xs) ≡ folded f (f b x) (drop (i + 1) xs)
  folded_on x here is b = ap (folded f b) (one_more (λ (y : A). true) xs i x here is) ∙ folded-cons f b x (drop (i + 1) xs)

  pub folded_over : length xs ≤ i → (b : B) → folded f b (drop i xs) ≡ b
  folded_over over b = ap (folded f b) (drop_of_length-le xs over) ∙ folded-nil f b

-- once the first is found all that is left is kept; before that, all but the first
module _ {A : Type 0} (p : A → Bool) (xs : List A) where
  abbrev pub left : ℕ → Bool → List A
  left i found = pick found (drop i xs) (without p (drop i xs))

  module _ (i : ℕ) (x : A) (here : i < length xs) (is : x ≡ get_or xs i x) where
    pub left_found : (found : Bool) → not found && p x ≡ true → left i found ≡ left (i + 1) true
    left_found true e = absurd (false≢true e)
    left_found false e = without_found p xs i x here is e

    pub left_kept : (found : Bool) → not found && p x ≡ false → left i found ≡ x ∷ left (i + 1) found
    left_kept true e = one_more p xs i x here is
    left_kept false e = without_past p xs i x here is e

  pub left_over : (i : ℕ) → length xs ≤ i → (found : Bool) → left i found ≡ []
  left_over i over true = drop_of_length-le xs over
  left_over i over false = without_over p xs i over
