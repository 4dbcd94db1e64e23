-- From an event's bytes to the event: what the outcome of bytes is, and the first byte is the event's kind.
use mathlib.Core.Bool.{Bool, false, true}
use mathlib.Core.List.{List}
use mathlib.Core.Path.{◌≡◌, ap, refl, subst, sym}
use Prim.Native.Nat.{ℕ}
use borrow.Author.Tests.{eqb-true}
use lib.Dec.{eqb}
use lib.ListN.{get_or, length}
use Rattle.rules.proofs.Choices.{pick_case}
use Rattle.rules.proofs.Verdicts.{IfTaken}
use Rattle.rules.specs.Bytes.{apply_read, event_of, heard, read_event, stepped}
use Rattle.rules.specs.Events.{Verdict, kind, refused, taken}
use Rattle.rules.specs.PairSlots.{apply, outcome}
use Rattle.rules.specs.declared.Event.{Event}
use Rattle.rules.specs.declared.Event.TheVariants.{Ack, BEnd, BStep, Detect, Fail, Link, PEnd, PStep, PTime}
use Rattle.rules.specs.declared.OpNo.{OpNo}
use Rattle.rules.specs.declared.Outcome.{Outcome}
use Rattle.rules.specs.declared.Pair.{Pair}
use Rattle.rules.specs.declared.Refusal.{Refusal}
use Rattle.rules.specs.declared.Refusal.TheVariants.{Malformed}
use Rattle.std.specs.Prelude.{Some, None, Option}

-- ---- the kind

abbrev KindOf : ℕ → Option Event → Type 0
KindOf k (Some ev) = kind ev ≡ k
KindOf k None = Unit

heard-kind : (k : ℕ) (b : Bool) (ev : Event) → kind ev ≡ k → KindOf k (heard b ev)
unfolding heard
heard-kind k true ev q = q
heard-kind k false ev q = tt

event_kind : (k s : ℕ) (o : OpNo) (w : ℕ) → KindOf k (event_of k s o w)
unfolding event_of kind
event_kind k s o w =
    pick_case (KindOf k) (eqb k 1) _ _ (λ q. heard-kind k _ (PStep w) (sym (eqb-true k 1 q))) λ _.
    pick_case (KindOf k) (eqb k 2) _ _ (λ q. sym (eqb-true k 2 q)) λ _.
    pick_case (KindOf k) (eqb k 3) _ _ (λ q. heard-kind k _ (PTime w) (sym (eqb-true k 3 q))) λ _.
    pick_case (KindOf k) (eqb k 4) _ _ (λ q. heard-kind k _ PEnd (sym (eqb-true k 4 q))) λ _.
    pick_case (KindOf k) (eqb k 5) _ _ (λ q. heard-kind k _ Link (sym (eqb-true k 5 q))) λ _.
    pick_case (KindOf k) (eqb k 6) _ _ (λ q. heard-kind k _ Ack (sym (eqb-true k 6 q))) λ _.
    pick_case (KindOf k) (eqb k 7) _ _ (λ q. heard-kind k _ Fail (sym (eqb-true k 7 q))) λ _.
    pick_case (KindOf k) (eqb k 8) _ _ (λ q. heard-kind k _ Detect (sym (eqb-true k 8 q))) λ _.
    pick_case (KindOf k) (eqb k 9) _ _ (λ q. heard-kind k _ (BStep w) (sym (eqb-true k 9 q))) λ _.
    pick_case (KindOf k) (eqb k 10) _ _ (λ q. heard-kind k _ (BEnd w) (sym (eqb-true k 10 q))) λ _.
    pick_case (KindOf k) (eqb k 11) _ _ (λ q. sym (eqb-true k 11 q)) λ _. tt

pub first_kind : (bytes : List ℕ) (ev : Event) → read_event bytes ≡ Some ev → kind ev ≡ get_or bytes 0 0
unfolding read_event
first_kind bytes ev q =
    subst (KindOf (get_or bytes 0 0)) q
    (pick_case (KindOf (get_or bytes 0 0)) (eqb (length bytes) 8) _ None (λ _. event_kind (get_or bytes 0 0) (get_or bytes 1 0) _ _) (λ _. tt))

-- ---- the outcome

pub stepped_ill : (code : List ℕ) (s : Pair) (bytes : List ℕ) → read_event bytes ≡ None → stepped code s bytes ≡ outcome s (refused Malformed)
unfolding stepped apply_read
stepped_ill code s bytes q = ap (λ (r : Option Event). outcome s (apply_read code s r)) q

pub stepped_well : (code : List ℕ) (s : Pair) (bytes : List ℕ) (ev : Event) → read_event bytes ≡ Some ev → stepped code s bytes ≡ outcome s (apply code s ev)
unfolding stepped apply_read
stepped_well code s bytes ev q = ap (λ (r : Option Event). outcome s (apply_read code s r)) q

-- a property of the outcome: where it is refused, and where the event that the bytes say is taken
pub if_stepped {κ} : (Q : Outcome → Type κ) (code : List ℕ) (s : Pair) (bytes : List ℕ) → ((why : Refusal) → Q (outcome s (refused why)))
    → ((ev : Event) → read_event bytes ≡ Some ev → IfTaken (λ t o. Q (outcome s (taken t o))) (apply code s ev)) → Q (stepped code s bytes)
unfolding stepped apply_read
if_stepped Q code s bytes r f = go (read_event bytes) refl
  where
    by_verdict : (v : Verdict) → IfTaken (λ t o. Q (outcome s (taken t o))) v → Q (outcome s v)
    by_verdict (refused why) a = r why
    by_verdict (taken t o) a = a

    go : (x : Option Event) → read_event bytes ≡ x → Q (outcome s (apply_read code s x))
    go None q = r Malformed
    go (Some ev) q = by_verdict (apply code s ev) (f ev q)
