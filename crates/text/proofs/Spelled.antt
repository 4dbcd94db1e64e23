-- Laws of `Spelled`: how texts are put together, and what a text that is long enough holds.
use mathlib.Core.Path.{◌≡◌, refl, ap, sym, ◌∙◌}
use mathlib.Core.Bool.{Bool, true, false}
use mathlib.Core.List.{List, [], ◌∷◌, ◌++◌}
use Prim.Native.Nat.{ℕ, ◌+◌, ◌≤◌, ◌<◌}
use native.Mathlib.Omega.{arith}
use borrow.Author.Tests.{leb-true, leb-false}
use lib.Dec.{leb}
use lib.ListN.{length, take, length-append}
use Rattle.words.specs.Wrote.{Wrote}
use Rattle.words.proofs.Wrote.{after, nothing, past, wrote-length, wrote-once, wrote_there}
use Rattle.text.specs.Spelled.{Spelled}

-- ---- put together

-- nothing is spelled
pub blank : {t : List ℕ} {at : ℕ} → Spelled t at [] t at
blank {t} {at} = record { wrote = nothing; behind = omega arith }

-- one byte: where it has a place, and where it has none
pub one : {t : List ℕ} {at : ℕ} {b : ℕ} {e : List ℕ} → at < length t → Wrote t at (b ∷ []) e → Spelled t at (b ∷ []) e (at + 1)
one {t} {at} h w = record { wrote = w; behind = omega arith }

pub no_place : {t : List ℕ} {at : ℕ} {bs : List ℕ} → length t ≤ at → Spelled t at bs t at
no_place {t} {at} {bs} h = record { wrote = past h; behind = omega arith }

-- THE LAW: some bytes, and then others from the place behind them, are the bytes of both
module _ {t u v : List ℕ} {at i j : ℕ} {xs ys : List ℕ} (p : Spelled t at xs u i) (q : Spelled u i ys v j) where
  -- the first have all their places, or the others have none
  both : (b : Bool) → leb (at + length xs) (length t) ≡ b → Wrote t at (xs ++ ys) v
  both true e = let h = leb-true (at + length xs) (length t) e in after p.wrote q.wrote (omega (arith, p.behind))
  both false e =
      let h = leb-false (at + length xs) (length t) e in
      let l = wrote-length p.wrote in
      rw (← wrote-once q.wrote (past (omega (arith, p.behind)))) at (after p.wrote (past {xs = ys} (omega arith)) refl)

  pub joined : Spelled t at (xs ++ ys) v j
  joined = record { wrote = both (leb (at + length xs) (length t)) refl; behind = rw length-append (omega (arith, p.behind, q.behind, wrote-length p.wrote)) }

-- ---- what is spelled

module _ {t : List ℕ} {at : ℕ} {bs e : List ℕ} {r : ℕ} (s : Spelled t at bs e r) where
  pub spelled-length : length e ≡ length t
  spelled-length = wrote-length s.wrote

  -- no other text, and no other place, is left by the same spelling
  pub spelled-once : {e' : List ℕ} {r' : ℕ} → Spelled t at bs e' r' → (r ≡ r') × (e ≡ e')
  spelled-once s' = (s.behind ∙ sym s'.behind, wrote-once s.wrote s'.wrote)

-- at the front of a text that has room for them, the bytes stand whole
pub front : {t bs e : List ℕ} {r : ℕ} → Spelled t 0 bs e r → length bs ≤ length t → (r ≡ length bs) × (take r e ≡ bs)
front {t} {bs} {e} {r} s h =
    let n : r ≡ length bs = omega (arith, s.behind) in
    (n, ap (λ (k : ℕ). take k e) n ∙ wrote_there s.wrote (omega arith))
