-- The operations that are out: which of them reached their devices, and the uncertain interrupts of the failover epoch (P8).
use mathlib.Core.Bool.{false, true}
use mathlib.Core.List.{List, [], ◌++◌, ◌∷◌, append_assoc, append-nil, map}
use mathlib.Core.Path.{◌∙◌, ◌≡◌, ap, refl, subst, sym}
use Prim.Native.Nat.{◌<◌, ℕ}
use borrow.Author.Tests.{eqb-false, ne_eqb, not-true}
use lib.Dec.{eqb}
use native.Mathlib.Omega.{arith}
use Rattle.rules.proofs.Ascending.{Ascends, ascends_above, ascends_keep}
use Rattle.rules.proofs.Boundary.{boundary-table, delivers-table}
use Rattle.rules.proofs.Choices.{clash, or_right, pick_case}
use Rattle.rules.proofs.Effect.{Deed, begun, calm, effect}
use Rattle.rules.proofs.Lists.{All, all_append, all_keep, all_map, folded-append}
use Rattle.rules.proofs.Operations.{all_self, listed_cons, listed-last, listed_more, listed_nil, ops_last, ops_uncertain, unlisted, unlisted_last}
use Rattle.rules.proofs.Parts.{all-each, all-zip, keep-each}
use Rattle.rules.specs.Boundary.{boundary, deliver, delivers, failover, other_op, restart, tell_uncertain, timer, told, uncertain}
use Rattle.rules.specs.Guest.{listed, ops_of}
use Rattle.rules.specs.GuestSound.{says}
use Rattle.rules.specs.History.{recorded}
use Rattle.rules.specs.Instruction.{complete, next, next_op, perform}
use Rattle.rules.specs.Lone.{LoneStep, reached}
use Rattle.rules.specs.Program.{Setup, exec, instr}
use Rattle.rules.specs.declared.Guest.{Guest}
use Rattle.rules.specs.declared.Interrupt.{Interrupt}
use Rattle.rules.specs.declared.OpNo.{OpNo}
use Rattle.rules.specs.declared.Ran.{Ran}
use Rattle.rules.specs.declared.RecordEntry.{RecordEntry}
use Rattle.slots.specs.Slots.{folded}
use Rattle.promises.proofs.LoneCard.{Possible, lonely, possible-bound, possible-interrupt}

-- every operation in the table reached its device
abbrev pub Reached : Guest → List RecordEntry → Type 0
Reached g es = All (λ n. reached n es ≡ true) g.table

reached_more : (n : OpNo) (es fs : List RecordEntry) → reached n es ≡ true → reached n (es ++ fs) ≡ true
unfolding reached
reached_more n es fs h = ap (listed n) (map-append es fs) ∙ listed_more n (map (λ (e : RecordEntry). e.op) es) (map (λ (e : RecordEntry). e.op) fs) h
  where
    map-append : (s t : List RecordEntry) → map (λ (e : RecordEntry). e.op) (s ++ t) ≡ map (λ (e : RecordEntry). e.op) s ++ map (λ (e : RecordEntry). e.op) t
    map-append [] t = refl
    map-append (x ∷ s) t = ap (λ (l : List OpNo). x.op ∷ l) (map-append s t)

reached-last : (es : List RecordEntry) (e : RecordEntry) → reached e.op (es ++ (e ∷ [])) ≡ true
unfolding reached
reached-last [] e = listed-last e.op []
reached-last (x ∷ es) e = listed_cons e.op x.op _ ∙ or_right (eqb x.op.0 e.op.0) _ (reached-last es e)

-- an instruction whose operation is shown
pub reached-exec : (S : Setup) (g : Guest) (c : ℕ) (es : List RecordEntry) → Reached g es → Reached (exec S g c).guest (recorded es (exec S g c).shown)
unfolding exec recorded
reached-exec S g c es h = go (perform (instr S g) g (next S.count g) c) (effect (instr S g) g (next S.count g) c).deed
  where
    go : (r : Ran) → Deed g r → Reached r.guest (recorded es r.shown)
    go r (calm a b d q) = rw (a, b) h
    go r (begun e a p f b d q) =
        rw (a, b)
        (all_append (λ (n : OpNo). reached n (es ++ (e ∷ [])) ≡ true) g.table (next_op g ∷ [])
        (all_map (λ (n : OpNo). reached n es ≡ true) (λ (n : OpNo). reached n (es ++ (e ∷ [])) ≡ true) (λ n k. reached_more n es (e ∷ []) k) g.table h)
        (subst (λ (n : OpNo). reached n (es ++ (e ∷ [])) ≡ true) p (reached-last es e), tt))

pub reached-boundary : (is : List Interrupt) (c : ℕ) (g : Guest) (es : List RecordEntry) → Reached g es → Reached (boundary is c g) es
reached-boundary is c g es h = rw (boundary-table is c g) (delivers-table (All (λ (n : OpNo). reached n es ≡ true)) (all_keep (λ (n : OpNo). reached n es ≡ true)) g is h)

-- ---- what is told leaves the table

deliver_off : (g : Guest) (i : Interrupt) → All (λ m. m.0 ≡ i.op.0 → ⊥) (deliver g i).table
unfolding deliver told
deliver_off g i =
    pick_case (λ (h : Guest). All (λ (m : OpNo). m.0 ≡ i.op.0 → ⊥) h.table) (listed i.op g.table) (told g i) g
    (λ _. keep-each (λ (m : OpNo). Unit {0}) (λ (m : OpNo). m.0 ≡ i.op.0 → ⊥) (other_op i.op) (λ m q _. eqb-false m.0 i.op.0 (not-true (eqb m.0 i.op.0) q)) g.table (all-each (λ (m : OpNo). Unit {0}) (λ m. tt) g.table))
    (λ q. unlisted i.op g.table q)

-- no operation that is left in the table was told
delivers_off : (is : List Interrupt) (g : Guest) → All (λ n. listed n (ops_of is) ≡ false) (delivers g is).table
unfolding folded ops_of
delivers_off [] g = all-each (λ (n : OpNo). listed n [] ≡ false) listed_nil g.table
delivers_off (i ∷ is) g =
    all-zip (λ (n : OpNo). listed n (ops_of is) ≡ false) (λ (n : OpNo). n.0 ≡ i.op.0 → ⊥) (λ (n : OpNo). listed n (i.op ∷ ops_of is) ≡ false)
    (λ n a b. listed_cons n i.op (ops_of is) ∙ rw (ne_eqb i.op.0 n.0 (λ z. b (sym z))) a)
    (delivers (deliver g i) is).table (delivers_off is (deliver g i))
    (delivers-table (All (λ (m : OpNo). m.0 ≡ i.op.0 → ⊥)) (all_keep (λ (m : OpNo). m.0 ≡ i.op.0 → ⊥)) (deliver g i) is (deliver_off g i))

-- what is left was there before
delivers-listed : (is : List Interrupt) (g : Guest) → All (λ n. listed n g.table ≡ true) (delivers g is).table
delivers-listed is g = delivers-table (All (λ (n : OpNo). listed n g.table ≡ true)) (all_keep (λ (n : OpNo). listed n g.table ≡ true)) g is (all_self g.table)

-- ---- the failover boundary (P8)

-- the uncertain interrupts are delivered after the others
failover-boundary : (is : List Interrupt) (c : ℕ) (g : Guest) → failover is c g ≡ boundary (is ++ map uncertain (delivers g is).table) c g
unfolding failover boundary tell_uncertain
failover-boundary is c g = ap (λ (h : Guest). restart (timer c h)) (sym (folded-append deliver g is (map uncertain (delivers g is).table)))

-- after it no operation is outstanding
failover-table : (is : List Interrupt) (c : ℕ) (g : Guest) → (failover is c g).table ≡ []
failover-table is c g =
    let us : List Interrupt = map uncertain (delivers g is).table in
    ap (λ (h : Guest). h.table) (failover-boundary is c g) ∙ boundary-table (is ++ us) c g ∙ ap (λ (h : Guest). h.table) (folded-append deliver g is us) ∙ empties (delivers g is)
  where
    no_member : (l : List OpNo) → All (λ (n : OpNo). ⊥) l → l ≡ []
    no_member [] a = refl
    no_member (n ∷ l) a = absurd a.0

    empties : (h : Guest) → (delivers h (map uncertain h.table)).table ≡ []
    empties h =
        no_member _ (all-zip (λ (n : OpNo). listed n (ops_of (map uncertain h.table)) ≡ false) (λ (n : OpNo). listed n h.table ≡ true) (λ (n : OpNo). ⊥) (λ n a b. clash b (sym (ap (listed n) (ops_uncertain h.table)) ∙ a)) (delivers h (map uncertain h.table)).table
        (delivers_off (map uncertain h.table) h) (delivers-listed (map uncertain h.table) h))

pub reached-failover : (is : List Interrupt) (c : ℕ) (g : Guest) (es : List RecordEntry) → Reached (failover is c g) es
reached-failover is c g es = rw (failover-table is c g) tt

-- ---- P8 on the lone card: it is told "uncertain" of each operation that is left, and then ends its epoch

module _ (S : Setup) (past : List LoneStep) (g : Guest) (es : List RecordEntry) where
  possible-uncertain : (n last : ℕ) (l : List OpNo) (buf : List Interrupt) → Ascends n last l → All (λ o. listed o g.table ≡ true) l → All (λ o. listed o (ops_of buf) ≡ false) l
      → Possible S past (lonely g buf es) → Possible S past (lonely g (buf ++ map uncertain l) es)
  unfolding says
  possible-uncertain n last [] buf a b c p = rw (append-nil buf) p
  possible-uncertain n last (o ∷ l) buf a b c p =
      subst (λ (k : List Interrupt). Possible S past (lonely g k es)) (append_assoc buf (uncertain o ∷ []) (map uncertain l))
      (possible-uncertain o.0 last l (buf ++ (uncertain o ∷ [])) a.2 b.1
      (all-zip (λ (m : OpNo). o.0 < m.0) (λ (m : OpNo). listed m (ops_of buf) ≡ false) (λ (m : OpNo). listed m (ops_of (buf ++ (uncertain o ∷ []))) ≡ false)
      (λ m x y. rw (ops_last buf (uncertain o)) (unlisted_last m o (ops_of buf) y (λ z. omega arith))) l (ascends_above o.0 last l a.2) c.1)
      (possible-interrupt S past g buf es p (uncertain o) refl b.0 c.0 refl))

  pub possible-failover : (is : List Interrupt) (c : ℕ) → Ascends 0 g.last.0 g.table → complete S.limit g ≡ true → Possible S past (lonely g is es) → Possible S past (lonely (failover is c g) [] es)
  possible-failover is c a n p =
      let l : List OpNo = (delivers g is).table in
      subst (λ (h : Guest). Possible S past (lonely h [] es)) (sym (failover-boundary is c g))
      (possible-bound S past g (is ++ map uncertain l) es
      (possible-uncertain 0 g.last.0 l is (delivers-table (Ascends 0 g.last.0) (λ t k. ascends_keep t 0 g.last.0 k) g is a) (delivers-listed is g) (delivers_off is g) p) c n)
