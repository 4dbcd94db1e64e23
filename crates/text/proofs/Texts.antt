-- Laws of `Puts`: how a text grows.
use mathlib.Core.List.{List, [], ◌++◌}
use mathlib.Core.Path.{◌≡◌, refl, sym, ◌∙◌}
use Prim.Native.Nat.{ℕ, ◌+◌, ◌<◌, ◌≤◌}
use native.Mathlib.Numerals.{add-one}
use lib.ListN.{length, get_or, take}
use lib.Seq.{take-suc, take_all}
use Rattle.words.specs.Arrays.{each}
use Rattle.words.proofs.Arrays.{each-one_more}
use Rattle.text.specs.declared.Text.{Text}
use Rattle.text.specs.Texts.{Puts}
use Rattle.text.proofs.Spelled.{blank, joined, spelled-once}

-- nothing is put
pub still : {t : Text} → Puts t [] t
still = record { same = refl; spelled = blank }

-- some bytes, and then others, are the bytes of both
infixl 40 ◌then◌
pub ◌then◌ : {t u v : Text} {xs ys : List ℕ} → Puts t xs u → Puts u ys v → Puts t (xs ++ ys) v
p then q = record { same = q.same ∙ p.same; spelled = joined p.spelled q.spelled }

-- ---- a loop that puts one thing after another: those before i have been put
module _ {A : Type 0} (f : A → List ℕ) (xs : List A) where
  pub none : {t : Text} → Puts t (each f (take 0 xs)) t
  unfolding each
  none = still

  pub more : (i : ℕ) (d : A) {t u v : Text} → i < length xs → Puts t (each f (take i xs)) u → Puts u (f (get_or xs i d)) v → Puts t (each f (take (i + 1) xs)) v
  more i d h p q = rw (add-one, take-suc xs i d, each-one_more) (p then q)

  pub all : {i : ℕ} {t e : Text} → length xs ≤ i → Puts t (each f (take i xs)) e → Puts t (each f xs) e
  all {i} h p = rw (take_all i xs h) at p

-- ---- what is put

-- no other text is left where the same bytes are put
pub puts-once : {t e e' : Text} {bs : List ℕ} → Puts t bs e → Puts t bs e' → (e.at ≡ e'.at) × (e.bytes.now ≡ e'.bytes.now) × (e.bytes.ghost_name ≡ e'.bytes.ghost_name)
puts-once p q =
    let once = spelled-once p.spelled q.spelled in
    (once.0, once.1, p.same ∙ sym q.same)
