-- A chain of refusals: what holds of the pair that an event leaves, if it is taken.
use mathlib.Core.Bool.{Bool, false, true}
use mathlib.Core.List.{List, [], ◌∷◌}
use mathlib.Core.Path.{◌≡◌, refl, subst}
use lib.Dec.{leb}
use lib.ListN.{length}
use Rattle.rules.specs.Events.{Verdict, linked, refuse, refused, taken}
use Rattle.rules.specs.History.{History, after}
use Rattle.rules.specs.Pair.{received}
use Rattle.rules.specs.declared.Event.{Event}
use Rattle.rules.specs.declared.Message.{Message}
use Rattle.rules.specs.declared.Pair.{Pair}
use Rattle.rules.specs.declared.Refusal.{Refusal}
use Rattle.rules.specs.declared.Refusal.TheVariants.{InboxFull}
use Rattle.rules.specs.declared.RecordEntry.{RecordEntry}
use Rattle.std.specs.Prelude.{None, Option}

abbrev pub IfTaken {κ} : (Pair → Option RecordEntry → Type κ) → Verdict → Type κ
IfTaken Q (refused why) = Unit
IfTaken Q (taken s o) = Q s o

-- a test of the chain
pub unless {κ} : (Q : Pair → Option RecordEntry → Type κ) (b : Bool) (why : Refusal) (v : Verdict) → (b ≡ false → IfTaken Q v) → IfTaken Q (refuse b why v)
unfolding refuse
unless Q true why v f = tt
unless Q false why v f = f refl

-- what holds of whatever is taken
pub if_any {κ} : (Q : Pair → Option RecordEntry → Type κ) → ((s : Pair) (o : Option RecordEntry) → Q s o) → (v : Verdict) → IfTaken Q v
if_any Q f (refused why) = tt
if_any Q f (taken s o) = f s o

-- what follows from what is known
pub if_map {κ ι} : (Q : Pair → Option RecordEntry → Type κ) (R : Pair → Option RecordEntry → Type ι) → ((s : Pair) (o : Option RecordEntry) → Q s o → R s o) → (v : Verdict) → IfTaken Q v → IfTaken R v
if_map Q R f (refused why) a = tt
if_map Q R f (taken s o) a = f s o a

-- LINK looks at the link
pub if_linked {κ} : (Q : Pair → Option RecordEntry → Type κ) (s : Pair) → ((m : Message) (ms : List Message) → s.link ≡ m ∷ ms → leb 128 (length s.inbox) ≡ false → Q (received s m ms) None) → IfTaken Q (linked s s.link)
unfolding linked
if_linked Q s f = go s.link refl
  where
    go : (l : List Message) → s.link ≡ l → IfTaken Q (linked s l)
    go [] e = tt
    go (m ∷ ms) e = unless Q _ InboxFull _ λ q. f m ms e q

-- what a refused event leaves as it is, and a taken one keeps
pub if_after {κ} : (Q : History → Type κ) (ev : Event) (h : History) (v : Verdict) → Q h → IfTaken (λ s o. Q (after ev h (taken s o))) v → Q (after ev h v)
unfolding after
if_after Q ev h (refused why) i f = i
if_after Q ev h (taken s o) i f = f

-- and so of the verdict itself
pub if_verdict {κ} : (Q : Pair → Option RecordEntry → Type κ) (v : Verdict) (s : Pair) (o : Option RecordEntry) → IfTaken Q v → v ≡ taken s o → Q s o
if_verdict Q v s o f q = subst (IfTaken Q) q f
