-- Lists of messages: what appending, keeping and dropping does to what is gathered from them.
use mathlib.Core.Bool.{Bool, false, not, true}
use mathlib.Core.List.{List, [], ◌++◌, ◌∷◌, append-nil}
use mathlib.Core.Path.{◌∙◌, ◌≡◌, ap, refl, subst, sym}
use Prim.Native.Nat.{ℕ}
use borrow.Author.Tests.{eq-eqb, eqb-true, ne_eqb}
use lib.Dec.{eqb}
use native.Mathlib.Omega.{arith}
use Rattle.slots.proofs.Lists.{any_here, any-later, any-nil, keep_append, without_here, without-later, without-nil}
use Rattle.slots.proofs.Tests.{and_true}
use Rattle.slots.specs.Slots.{any, keep, without}
use Rattle.rules.proofs.Choices.{and_right, by_cases, pick_case}
use Rattle.rules.proofs.Lists.{All, all_map}
use Rattle.rules.proofs.Parts.{Part, keep_all, part_keep, part_self, part_without, without-last, without-left}
use Rattle.rules.specs.Events.{unread}
use Rattle.rules.specs.Messages.{drop_epoch, drop_val, end, gather, int, int_of, interrupt_of, ints, of_epoch, of_kind, only, place, tme, tme_of, tmes, val, val_of, vals}
use Rattle.rules.specs.Program.{Setup, at_time}
use Rattle.rules.specs.declared.EpochNo.{EpochNo}
use Rattle.rules.specs.declared.Guest.{Guest}
use Rattle.rules.specs.declared.Interrupt.{Interrupt}
use Rattle.rules.specs.declared.Message.{Message}

abbrev pub epoch_of : Message → ℕ
epoch_of m = m.epoch.0

pub same-epoch : (a b : EpochNo) → a.0 ≡ b.0 → a ≡ b
same-epoch a b q = λ k. record { 0 = q k }

-- the list has a member
abbrev pub NonEmpty {ℓ} : {X : Type ℓ} → List X → Type 0
NonEmpty [] = ⊥
NonEmpty (x ∷ xs) = Unit

-- no message is of epoch e
abbrev pub Without : EpochNo → List Message → Type 0
Without e ms = All (λ m. epoch_of m ≡ e.0 → ⊥) ms

pub other_kind : (k : ℕ) (e : EpochNo) (m : Message) → (epoch_of m ≡ e.0 → ⊥) → of_kind k e m ≡ false
unfolding of_kind of_epoch
other_kind k e m h = rw (ne_eqb m.epoch.0 e.0 h)

pub of_kind_lem : (k : ℕ) (e : EpochNo) (m : Message) → of_kind k e m ≡ true → (epoch_of m ≡ e.0) × (m.kind ≡ k)
unfolding of_kind of_epoch
of_kind_lem k e m h = let a = and_true (eqb m.epoch.0 e.0) (eqb m.kind k) h in (eqb-true m.epoch.0 e.0 a.0, eqb-true m.kind k a.1)

-- a message has one kind
pub one-kind : (j k : ℕ) (e d : EpochNo) (m : Message) → (j ≡ k → ⊥) → of_kind j e m ≡ true → of_kind k d m ≡ false
unfolding of_kind
one-kind j k e d m n h = and_right (of_epoch d m) (eqb m.kind k) (ne_eqb m.kind k (λ q. let z = (of_kind_lem j e m h).1 in n (sym z ∙ q)))

-- ---- what is gathered

-- what is read of a message of this kind and epoch: vals, ints and tmes are so gathered
abbrev pub reads : {X : Type 0} → ℕ → EpochNo → (Message → X) → List Message → List X
reads k e f ms = gather (λ m. only (of_kind k e m) (f m)) ms

module _ {X : Type 0} (k : ℕ) (e : EpochNo) (f : Message → X) where
  reads_in : (m : Message) (ms : List Message) → of_kind k e m ≡ true → reads k e f (m ∷ ms) ≡ f m ∷ reads k e f ms
  unfolding gather place only
  reads_in m ms h = rw h

  pub reads_out : (m : Message) (ms : List Message) → of_kind k e m ≡ false → reads k e f (m ∷ ms) ≡ reads k e f ms
  unfolding gather place only
  reads_out m ms h = rw h

  pub reads-append : (s t : List Message) → reads k e f (s ++ t) ≡ reads k e f s ++ reads k e f t
  unfolding gather
  reads-append [] t = refl
  reads-append (m ∷ s) t =
      by_cases (of_kind k e m)
      (λ h. reads_in m (s ++ t) h ∙ ap (λ (l : List X). f m ∷ l) (reads-append s t) ∙ ap (λ (l : List X). l ++ reads k e f t) (sym (reads_in m s h)))
      (λ h. reads_out m (s ++ t) h ∙ reads-append s t ∙ ap (λ (l : List X). l ++ reads k e f t) (sym (reads_out m s h)))

  pub reads_none : (s : List Message) → Without e s → reads k e f s ≡ []
  unfolding gather
  reads_none [] a = refl
  reads_none (m ∷ s) a = reads_out m s (other_kind k e m a.0) ∙ reads_none s a.1

  -- where the second list has no message of epoch e, only the first counts
  pub reads-left : (s t : List Message) → Without e t → reads k e f (s ++ t) ≡ reads k e f s
  reads-left s t a = reads-append s t ∙ ap (λ (l : List X). reads k e f s ++ l) (reads_none t a) ∙ append-nil (reads k e f s)

  -- something is read where a message is of this kind and epoch, and only there
  pub reads_some : (s : List Message) → NonEmpty (reads k e f s) → any (of_kind k e) s ≡ true
  unfolding gather
  reads_some [] h = absurd h
  reads_some (m ∷ s) h = by_cases (of_kind k e m) (λ q. any_here (of_kind k e) m s q) (λ q. any-later (of_kind k e) m s q ∙ reads_some s (subst NonEmpty (reads_out m s q) h))

  pub reads-empty : (s : List Message) → reads k e f s ≡ [] → any (of_kind k e) s ≡ false
  reads-empty [] h = any-nil (of_kind k e)
  reads-empty (m ∷ s) h =
      by_cases (of_kind k e m)
      (λ q. absurd (let z : ◌≡◌ {A = ℕ} 0 1 = cc (reads_in m s q) in omega arith))
      (λ q. any-later (of_kind k e) m s q ∙ reads-empty s (sym (reads_out m s q) ∙ h))

  -- one message, and one of another kind
  pub read_one : (m : Message) → of_kind k e m ≡ true → reads k e f (m ∷ []) ≡ f m ∷ []
  unfolding gather
  read_one m h = reads_in m [] h

  pub read_other : (m : Message) → of_kind k e m ≡ false → reads k e f (m ∷ []) ≡ []
  unfolding gather
  read_other m h = reads_out m [] h

  -- those that leave are not read
  pub reads-without : (t : Message → Bool) → ((m : Message) → t m ≡ true → of_kind k e m ≡ false) → (s : List Message) → reads k e f (without t s) ≡ reads k e f s
  reads-without t n [] = ap (reads k e f) (without-nil t)
  reads-without t n (m ∷ s) =
      by_cases (t m)
      (λ q. ap (reads k e f) (without_here t m s q) ∙ sym (reads_out m s (n m q)))
      (λ q. ap (reads k e f) (without-later t m s q) ∙ reads-append (m ∷ []) (without t s) ∙ ap (λ (l : List X). reads k e f (m ∷ []) ++ l) (reads-without t n s) ∙ sym (reads-append (m ∷ []) s))

-- ---- Vals, Ints and Tmes of an epoch

pub gathered_append : (e : EpochNo) (s t : List Message) → (vals e (s ++ t) ≡ vals e s ++ vals e t) × (ints e (s ++ t) ≡ ints e s ++ ints e t) × (tmes e (s ++ t) ≡ tmes e s ++ tmes e t)
unfolding vals val_of ints int_of tmes tme_of
gathered_append e s t = (reads-append 1 e (λ (m : Message). m.word) s t, reads-append 2 e interrupt_of s t, reads-append 3 e (λ (m : Message). m.word) s t)

pub gathered_left : (e : EpochNo) (s t : List Message) → Without e t → (vals e (s ++ t) ≡ vals e s) × (ints e (s ++ t) ≡ ints e s) × (tmes e (s ++ t) ≡ tmes e s)
unfolding vals val_of ints int_of tmes tme_of
gathered_left e s t a = (reads-left 1 e (λ (m : Message). m.word) s t a, reads-left 2 e interrupt_of s t a, reads-left 3 e (λ (m : Message). m.word) s t a)

pub gathered_none : (e : EpochNo) (s : List Message) → Without e s → (vals e s ≡ []) × (ints e s ≡ []) × (tmes e s ≡ [])
unfolding vals val_of ints int_of tmes tme_of
gathered_none e s a = (reads_none 1 e (λ (m : Message). m.word) s a, reads_none 2 e interrupt_of s a, reads_none 3 e (λ (m : Message). m.word) s a)

-- what a message that was just sent holds
own-kind : (k : ℕ) (m : Message) → of_kind k m.epoch m ≡ eqb m.kind k
unfolding of_kind of_epoch
own-kind k m = rw (eq-eqb m.epoch.0 m.epoch.0 refl)

abbrev pub Holds : EpochNo → Message → List ℕ → List Interrupt → List ℕ → Type 0
Holds e m vs is ts = (vals e (m ∷ []) ≡ vs) × (ints e (m ∷ []) ≡ is) × (tmes e (m ∷ []) ≡ ts)

pub val_holds : (e : EpochNo) (c : ℕ) → Holds e (val e c) (c ∷ []) [] []
unfolding vals val_of ints int_of tmes tme_of val interrupt_of
val_holds e c = (read_one 1 e (λ (m : Message). m.word) (val e c) (own-kind 1 (val e c)), read_other 2 e interrupt_of (val e c) (own-kind 2 (val e c)), read_other 3 e (λ (m : Message). m.word) (val e c) (own-kind 3 (val e c)))

pub int_holds : (e : EpochNo) (i : Interrupt) → Holds e (int e i) [] (i ∷ []) []
unfolding vals val_of ints int_of tmes tme_of int interrupt_of
int_holds e i = (read_other 1 e (λ (m : Message). m.word) (int e i) (own-kind 1 (int e i)), read_one 2 e interrupt_of (int e i) (own-kind 2 (int e i)), read_other 3 e (λ (m : Message). m.word) (int e i) (own-kind 3 (int e i)))

pub tme_holds : (e : EpochNo) (c : ℕ) → Holds e (tme e c) [] [] (c ∷ [])
unfolding vals val_of ints int_of tmes tme_of tme interrupt_of
tme_holds e c = (read_other 1 e (λ (m : Message). m.word) (tme e c) (own-kind 1 (tme e c)), read_other 2 e interrupt_of (tme e c) (own-kind 2 (tme e c)), read_one 3 e (λ (m : Message). m.word) (tme e c) (own-kind 3 (tme e c)))

pub end_holds : (e : EpochNo) → Holds e (end e) [] [] []
unfolding vals val_of ints int_of tmes tme_of end interrupt_of
end_holds e = (read_other 1 e (λ (m : Message). m.word) (end e) (own-kind 1 (end e)), read_other 2 e interrupt_of (end e) (own-kind 2 (end e)), read_other 3 e (λ (m : Message). m.word) (end e) (own-kind 3 (end e)))

-- ---- what is taken out

-- the first Val is in the first list
pub drop_val-left : (e : EpochNo) (s u : List Message) → NonEmpty (vals e s) → drop_val e (s ++ u) ≡ drop_val e s ++ u
unfolding drop_val vals val_of
drop_val-left e s u h = without-left (of_kind 1 e) s u (reads_some 1 e (λ (m : Message). m.word) s h)

-- the Val that was just sent is the only one
pub drop_val-last : (e : EpochNo) (c : ℕ) (s : List Message) → vals e s ≡ [] → drop_val e (s ++ (val e c ∷ [])) ≡ s
unfolding drop_val vals val_of val
drop_val-last e c s h = without-last (of_kind 1 e) s (val e c) (reads-empty 1 e (λ (m : Message). m.word) s h) (own-kind 1 (val e c))

-- a dropped Val holds no interrupt
pub ints-drop_val : (e d : EpochNo) (ms : List Message) → ints e (drop_val d ms) ≡ ints e ms
unfolding ints int_of drop_val
ints-drop_val e d ms = reads-without 2 e interrupt_of (of_kind 1 d) (λ m q. one-kind 1 2 d e m (λ z. omega arith) q) ms

pub drop_epoch-left : (e : EpochNo) (s u : List Message) → Without e u → drop_epoch e (s ++ u) ≡ drop_epoch e s ++ u
unfolding drop_epoch of_epoch
drop_epoch-left e s u a =
    let t : Message → Bool = λ m. not (of_epoch e m) in
    keep_append t s u ∙ ap (λ (l : List Message). keep t s ++ l) (keep_all t u (all_map (λ (m : Message). epoch_of m ≡ e.0 → ⊥) (λ (m : Message). t m ≡ true) (λ m h. ap not (ne_eqb (epoch_of m) e.0 h)) u a))

-- a part of the messages is left
pub part_drop_epoch : (e : EpochNo) (ms : List Message) → Part (drop_epoch e ms) ms
unfolding drop_epoch
part_drop_epoch e ms = part_keep (λ m. not (of_epoch e m)) ms

pub part_unread : (S : Setup) (e : EpochNo) (g : Guest) (ms : List Message) → Part (unread S e g ms) ms
unfolding unread drop_val
part_unread S e g ms = pick_case (λ (l : List Message). Part l ms) (at_time S g) (without (of_kind 1 e) ms) ms (λ _. part_without (of_kind 1 e) ms) (λ _. part_self ms)
