-- The decoder lets no jump out of the program, and a good program has no bad instruction.
use mathlib.Core.Bool.{Bool, ◌&&◌, false, not, true}
use mathlib.Core.List.{List}
use mathlib.Core.Path.{◌≡◌, refl, subst, sym}
use Prim.Native.Nat.{◌*◌, ◌+◌, ◌<◌, ◌≤◌, suc, zero, ℕ}
use borrow.Author.Tests.{eqb-false, eqb-true, leb-true, ltb-true, not-true}
use lib.Dec.{eqb, leb, ltb}
use lib.ListN.{get_or, length}
use native.Mathlib.Omega.{arith}
use Rattle.slots.proofs.Tests.{and_true}
use Rattle.rules.proofs.Choices.{by_cases, pick_case}
use Rattle.rules.proofs.Effect.{Inside}
use Rattle.rules.specs.Decode.{allow, decode, fetch, instr_of, is_bad}
use Rattle.rules.specs.Program.{Setup, bad, good, good_program, good_up_to, instr}
use Rattle.rules.specs.declared.Guest.{Guest}
use Rattle.rules.specs.declared.Instr.{Instr}
use Rattle.rules.specs.declared.Instr.TheVariants.{Add, Div, Jz, Load, Nop, SetTo, Start, Store, Sub, Take, Time, Timer}
use Rattle.std.specs.Prelude.{Some, None, Option}

-- what the decoder lets through lies inside
abbrev InsideOf : ℕ → Option Instr → Type 0
InsideOf n (Some i) = Inside n i
InsideOf n None = Unit

allow_inside : (n : ℕ) (b : Bool) (i : Instr) → (b ≡ true → Inside n i) → InsideOf n (allow b i)
unfolding allow
allow_inside n true i f = f refl
allow_inside n false i f = tt

decode_inside : (c x y z n : ℕ) → InsideOf n (decode c x y z n)
unfolding decode
decode_inside c x y z n =
    pick_case (InsideOf n) (eqb c 0) _ _ (λ _. allow_inside n _ Nop (λ _. tt)) λ _.
    pick_case (InsideOf n) (eqb c 1) _ _ (λ _. allow_inside n _ (SetTo x (256 * y + z)) (λ _. tt)) λ _.
    pick_case (InsideOf n) (eqb c 2) _ _ (λ _. allow_inside n _ (Add x y z) (λ _. tt)) λ _.
    pick_case (InsideOf n) (eqb c 3) _ _ (λ _. allow_inside n _ (Sub x y z) (λ _. tt)) λ _.
    pick_case (InsideOf n) (eqb c 4) _ _ (λ _. allow_inside n _ (Div x y z) (λ _. tt)) λ _.
    pick_case (InsideOf n) (eqb c 5) _ _ (λ _. allow_inside n _ (Load x y) (λ _. tt)) λ _.
    pick_case (InsideOf n) (eqb c 6) _ _ (λ _. allow_inside n _ (Store x y) (λ _. tt)) λ _.
    pick_case (InsideOf n) (eqb c 7) _ _ (λ _. allow_inside n _ (Jz x (256 * y + z)) (λ q. ltb-true (256 * y + z) n (and_true (ltb x 8) (ltb (256 * y + z) n) q).1)) λ _.
    pick_case (InsideOf n) (eqb c 8) _ _ (λ _. allow_inside n _ (Take x y z) (λ _. tt)) λ _.
    pick_case (InsideOf n) (eqb c 16) _ _ (λ _. allow_inside n _ (Time x) (λ _. tt)) λ _.
    pick_case (InsideOf n) (eqb c 17) _ _ (λ _. allow_inside n _ (Start x y z) (λ _. tt)) λ _.
    pick_case (InsideOf n) (eqb c 18) _ _ (λ _. allow_inside n _ (Timer x) (λ _. tt)) λ _. tt

pub good_inside : (c x y z n : ℕ) (i : Instr) → decode c x y z n ≡ Some i → Inside n i
good_inside c x y z n i q = subst (InsideOf n) q (decode_inside c x y z n)

-- the instruction at pc, also where NOP stands in for a bad one
pub instr_inside : (S : Setup) (g : Guest) → Inside S.count (instr S g)
unfolding instr instr_of fetch
instr_inside S g =
    pick_case (λ (d : Option Instr). Inside S.count (instr_of d)) (ltb g.pc S.count) _ None
    (λ _. go (decode (get_or S.code (4 * g.pc) 0) (get_or S.code (4 * g.pc + 1) 0) (get_or S.code (4 * g.pc + 2) 0) (get_or S.code (4 * g.pc + 3) 0) S.count) (decode_inside _ _ _ _ S.count))
    (λ _. tt)
  where
    go : (d : Option Instr) → InsideOf S.count d → Inside S.count (instr_of d)
    go (Some i) a = a
    go None a = tt

-- what a good program and L give
pub record GoodSetup (S : Setup) : Type 0 where
  pub limits : (1 ≤ S.limit) × (S.limit ≤ 4096) × (1 ≤ S.count) × (S.count ≤ 1024)
  pub bytes : length S.code ≡ 4 * S.count
  pub runs : (g : Guest) → g.pc < S.count → bad S g ≡ false

good-at : (code : List ℕ) (n k : ℕ) → good_up_to code n k ≡ true → (pc : ℕ) → pc < k → is_bad (fetch code n pc) ≡ false
unfolding good_up_to
good-at code n zero h pc l = absurd (omega arith)
good-at code n (suc k) h pc l =
    let a = and_true (good_up_to code n k) (not (is_bad (fetch code n k))) h in
    let before : pc < k → is_bad (fetch code n pc) ≡ false = good-at code n k a.0 pc in
    by_cases (eqb pc k)
    (λ q. subst (λ (m : ℕ). is_bad (fetch code n m) ≡ false) (sym (eqb-true pc k q)) (not-true (is_bad (fetch code n k)) a.1))
    (λ q. let ne = eqb-false pc k q in before (omega arith))

pub good_setup : (S : Setup) → good S ≡ true → GoodSetup S
unfolding good good_program bad
good_setup S h =
    let a = and_true (leb 1 S.limit && leb S.limit 4096) (good_program S.code S.count) h in
    let b = and_true (leb 1 S.limit) (leb S.limit 4096) a.0 in
    let c = and_true (leb 1 S.count && leb S.count 1024 && eqb (length S.code) (4 * S.count)) (good_up_to S.code S.count S.count) a.1 in
    let d = and_true (leb 1 S.count && leb S.count 1024) (eqb (length S.code) (4 * S.count)) c.0 in
    let e = and_true (leb 1 S.count) (leb S.count 1024) d.0 in
    record {
      limits = (leb-true 1 S.limit b.0, leb-true S.limit 4096 b.1, leb-true 1 S.count e.0, leb-true S.count 1024 e.1);
      bytes = eqb-true (length S.code) (4 * S.count) d.1;
      runs = λ g l. good-at S.code S.count S.count c.1 g.pc l;
    }
