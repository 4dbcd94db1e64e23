-- The messages in the inbox and on the link: their order, and the ends that are there. eb is B's epoch, ep is P's.
use mathlib.Core.Bool.{Bool, ◌||◌, not, true}
use mathlib.Core.List.{List, [], ◌++◌, ◌∷◌, append_assoc}
use mathlib.Core.Logic.{◌⊎◌, inl, inr}
use mathlib.Core.Path.{◌∙◌, ◌≡◌, ap, refl, subst, sym}
use Prim.Native.Nat.{◌<◌, ◌≤◌, suc, ℕ}
use borrow.Author.Tests.{eqb-false, not-true}
use lib.Dec.{eqb}
use native.Mathlib.Nat.{le_refl}
use native.Mathlib.Omega.{arith}
use Rattle.rules.proofs.Choices.{by_cases, or_left, or_right}
use Rattle.rules.proofs.Lists.{All, all_append, all_map}
use Rattle.rules.proofs.Messages.{Without, epoch_of, part_drop_epoch, part_unread}
use Rattle.rules.proofs.Parts.{Part, keep-each, part_all, part_append}
use Rattle.rules.specs.Events.{unread}
use Rattle.rules.specs.Messages.{drop_epoch, end, has_end, is_end, of_epoch, of_kind}
use Rattle.rules.specs.Pair.{next_epoch}
use Rattle.rules.specs.Program.{Setup}
use Rattle.rules.specs.declared.EpochNo.{EpochNo}
use Rattle.rules.specs.declared.Guest.{Guest}
use Rattle.rules.specs.declared.Message.{Message}
use Rattle.slots.specs.Slots.{any}
use Rattle.promises.proofs.Order.{InOrder, has_end-append, has_end-drop_epoch, has_end-unread, order-last, order_part, past_least, past_other, past_of}

pub record Wires (eb ep : EpochNo) (inbox link : List Message) : Type 0 where
  pub order : InOrder (inbox ++ link)
  pub bounded : All (λ m. past_of m ≤ ep.0) (inbox ++ link)
  pub oldest : All (λ m. eb.0 ≤ epoch_of m) inbox
  pub newer : All (λ m. eb.0 < epoch_of m) link
  pub ends : (e : EpochNo) → eb.0 < e.0 → e.0 < ep.0 → has_end e (inbox ++ link) ≡ true

-- no epoch in the messages is above P's
pub wires_epochs : (eb ep : EpochNo) (inbox link : List Message) → Wires eb ep inbox link → All (λ m. epoch_of m ≤ ep.0) (inbox ++ link)
wires_epochs eb ep inbox link w = all_map (λ (m : Message). past_of m ≤ ep.0) (λ (m : Message). epoch_of m ≤ ep.0) (λ m k. let z = past_least m in omega arith) (inbox ++ link) w.bounded

-- P sends a message of its epoch, and is then in epoch eq
module _ (eb ep eq : EpochNo) (inbox link : List Message) (m : Message) (behind : eb.0 < ep.0) (up : ep.0 ≤ eq.0) (own : epoch_of m ≡ ep.0) (last : past_of m ≤ eq.0) (w : Wires eb ep inbox link) where
  pub wires_send : ((e : EpochNo) → e.0 < eq.0 → (e.0 < ep.0) ⊎ (has_end e (m ∷ []) ≡ true)) → Wires eb eq inbox (link ++ (m ∷ []))
  wires_send f =
      let same : (inbox ++ link) ++ (m ∷ []) ≡ inbox ++ (link ++ (m ∷ [])) = append_assoc inbox link (m ∷ []) in
      record {
        order = subst InOrder same (order-last (inbox ++ link) m w.order (all_map (λ (x : Message). past_of x ≤ ep.0) (λ (x : Message). past_of x ≤ epoch_of m) (λ x k. omega arith) (inbox ++ link) w.bounded));
        bounded =
            subst (All (λ (x : Message). past_of x ≤ eq.0)) same
            (all_append (λ (x : Message). past_of x ≤ eq.0) (inbox ++ link) (m ∷ []) (all_map (λ (x : Message). past_of x ≤ ep.0) (λ (x : Message). past_of x ≤ eq.0) (λ x k. omega arith) (inbox ++ link) w.bounded) (last, tt));
        oldest = w.oldest;
        newer = all_append (λ (x : Message). eb.0 < epoch_of x) link (m ∷ []) w.newer (omega arith, tt);
        ends = λ e a b.
            subst (λ (l : List Message). has_end e l ≡ true) same
            (has_end-append e (inbox ++ link) (m ∷ []) ∙ go e a (f e b));
      }
    where
      go : (e : EpochNo) → eb.0 < e.0 → (e.0 < ep.0) ⊎ (has_end e (m ∷ []) ≡ true) → has_end e (inbox ++ link) || has_end e (m ∷ []) ≡ true
      go e a (inl k) = or_left (has_end e (inbox ++ link)) (has_end e (m ∷ [])) (w.ends e a k)
      go e a (inr k) = or_right (has_end e (inbox ++ link)) (has_end e (m ∷ [])) k

-- one that is no end, and P's end
pub wires_message : (eb ep : EpochNo) (inbox link : List Message) (m : Message) → eb.0 < ep.0 → epoch_of m ≡ ep.0 → (m.kind ≡ 4 → ⊥) → Wires eb ep inbox link → Wires eb ep inbox (link ++ (m ∷ []))
wires_message eb ep inbox link m h q n w = wires_send eb ep ep inbox link m h (le_refl ep.0) q (let z = past_other m n in omega arith) w (λ e b. inl b)

pub wires_end : (eb ep : EpochNo) (inbox link : List Message) → eb.0 < ep.0 → Wires eb ep inbox link → Wires eb (next_epoch ep) inbox (link ++ (end ep ∷ []))
unfolding end has_end any is_end of_kind of_epoch past_of
wires_end eb ep inbox link h w =
    wires_send eb ep (next_epoch ep) inbox link (end ep) h (omega arith) refl (le_refl (suc ep.0)) w
    (λ e b. by_cases (eqb ep.0 e.0) (λ q. inr (rw q)) (λ q. let z = eqb-false ep.0 e.0 q in inl (lower e.0 ep.0 b (λ y. z (sym y)))))
  where
    lower : (a b : ℕ) → a < suc b → (a ≡ b → ⊥) → a < b
    lower a b x y = omega arith

-- the oldest message on the link arrives
pub wires_link : (eb ep : EpochNo) (inbox : List Message) (m : Message) (link : List Message) → Wires eb ep inbox (m ∷ link) → Wires eb ep (inbox ++ (m ∷ [])) link
wires_link eb ep inbox m link w =
    let same : inbox ++ (m ∷ link) ≡ (inbox ++ (m ∷ [])) ++ link = sym (append_assoc inbox (m ∷ []) link) in
    record {
      order = subst InOrder same w.order;
      bounded = subst (All (λ (x : Message). past_of x ≤ ep.0)) same w.bounded;
      oldest = all_append (λ (x : Message). eb.0 ≤ epoch_of x) inbox (m ∷ []) w.oldest (let k = w.newer.0 in omega arith, tt);
      newer = w.newer.1;
      ends = λ e a b. subst (λ (l : List Message). has_end e l ≡ true) same (w.ends e a b);
    }

-- all that B's epoch needs is in the inbox
pub newer_without : (eb : EpochNo) (link : List Message) → All (λ m. eb.0 < epoch_of m) link → Without eb link
newer_without eb link a = all_map (λ (m : Message). eb.0 < epoch_of m) (λ (m : Message). epoch_of m ≡ eb.0 → ⊥) (λ m k q. omega arith) link a

-- B takes some out, and is then in epoch ec
wires_part : (eb ec ep : EpochNo) (inbox rest link : List Message) → Part rest inbox → eb.0 ≤ ec.0 → All (λ m. ec.0 ≤ epoch_of m) rest → All (λ m. ec.0 < epoch_of m) link → ((e : EpochNo) → ec.0 < e.0 → has_end e rest ≡ has_end e inbox) → Wires eb ep inbox link → Wires ec ep rest link
wires_part eb ec ep inbox rest link r up old new same w =
    record {
      order = order_part (part_append r link) w.order;
      bounded = part_all (λ (m : Message). past_of m ≤ ep.0) (part_append r link) w.bounded;
      oldest = old;
      newer = new;
      ends = λ e a b. has_end-append e rest link ∙ ap (λ (x : Bool). x || has_end e link) (same e a) ∙ sym (has_end-append e inbox link) ∙ w.ends e (omega arith) b;
    }

-- an instruction of B's
pub wires_unread : (S : Setup) (eb ep : EpochNo) (g : Guest) (inbox link : List Message) → Wires eb ep inbox link → Wires eb ep (unread S eb g inbox) link
wires_unread S eb ep g inbox link w =
    wires_part eb eb ep inbox (unread S eb g inbox) link (part_unread S eb g inbox) (le_refl eb.0) (part_all (λ (m : Message). eb.0 ≤ epoch_of m) (part_unread S eb g inbox) w.oldest) w.newer
    (λ e a. has_end-unread S e eb g inbox) w

-- a boundary of B's
pub wires_turn : (eb ep : EpochNo) (inbox link : List Message) → All (λ m. suc eb.0 < epoch_of m) link → Wires eb ep inbox link → Wires (next_epoch eb) ep (drop_epoch eb inbox) link
unfolding drop_epoch of_epoch
wires_turn eb ep inbox link h w =
    wires_part eb (next_epoch eb) ep inbox (drop_epoch eb inbox) link (part_drop_epoch eb inbox) (omega arith)
    (keep-each (λ (m : Message). eb.0 ≤ epoch_of m) (λ (m : Message). suc eb.0 ≤ epoch_of m) (λ m. not (of_epoch eb m)) (λ m q k. let z = eqb-false (epoch_of m) eb.0 (not-true (eqb (epoch_of m) eb.0) q) in omega arith) inbox w.oldest) h
    (λ e a. has_end-drop_epoch e eb (λ q. omega arith) inbox) w
