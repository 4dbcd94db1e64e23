-- The order of the messages: by epoch, and after an epoch's end nothing more of it.
use mathlib.Core.Bool.{◌||◌, not, true}
use mathlib.Core.List.{List, [], ◌++◌, ◌∷◌}
use mathlib.Core.Path.{◌∙◌, ◌≡◌, ap, refl, sym}
use Prim.Native.Nat.{◌<◌, ◌≤◌, suc, ℕ}
use borrow.Author.Tests.{eq-eqb, eqb-true, ne_eqb, not-false}
use lib.Dec.{eqb}
use native.Mathlib.Nat.{le_refl}
use native.Mathlib.Omega.{arith}
use Rattle.rules.proofs.Choices.{by_cases, clash, pick_case, pick-false, pick_true}
use Rattle.rules.proofs.Lists.{All, all_append, all_map, all_right, any_append}
use Rattle.rules.proofs.Messages.{epoch_of, of_kind_lem, one-kind, other_kind}
use Rattle.rules.proofs.Parts.{Part, all_any, any-keep, any-without, leaves, nil, part_all, stays}
use Rattle.rules.specs.Events.{unread}
use Rattle.rules.specs.Messages.{drop_epoch, drop_val, has_end, is_end, of_epoch, of_kind}
use Rattle.rules.specs.Program.{Setup, at_time}
use Rattle.rules.specs.declared.EpochNo.{EpochNo}
use Rattle.rules.specs.declared.Guest.{Guest}
use Rattle.rules.specs.declared.Message.{Message}
use Rattle.slots.proofs.Lists.{any-later, any-nil}
use Rattle.slots.specs.Slots.{any, pick, without}

-- what follows the message is of this epoch or later
unfoldable pub past_of : Message → ℕ
past_of m = pick (eqb m.kind 4) (suc (epoch_of m)) (epoch_of m)

pub past_end : (m : Message) → m.kind ≡ 4 → past_of m ≡ suc (epoch_of m)
unfolding past_of
past_end m h = pick_true (suc (epoch_of m)) (epoch_of m) (eq-eqb m.kind 4 h)

pub past_other : (m : Message) → (m.kind ≡ 4 → ⊥) → past_of m ≡ epoch_of m
unfolding past_of
past_other m h = pick-false (suc (epoch_of m)) (epoch_of m) (ne_eqb m.kind 4 h)

pub past_least : (m : Message) → epoch_of m ≤ past_of m
unfolding past_of
past_least m = pick_case (λ (n : ℕ). epoch_of m ≤ n) (eqb m.kind 4) (suc (epoch_of m)) (epoch_of m) (λ _. omega arith) (λ _. le_refl (epoch_of m))

abbrev pub InOrder : List Message → Type 0
InOrder [] = Unit
InOrder (m ∷ ms) = All (λ x. past_of m ≤ epoch_of x) ms × InOrder ms

pub order_part : {s t : List Message} → Part s t → InOrder t → InOrder s
order_part nil o = tt
order_part (leaves r) o = order_part r o.1
order_part (stays {x} r) o = (part_all (λ (y : Message). past_of x ≤ epoch_of y) r o.0, order_part r o.1)

-- one more at the end
pub order-last : (ms : List Message) (x : Message) → InOrder ms → All (λ m. past_of m ≤ epoch_of x) ms → InOrder (ms ++ (x ∷ []))
order-last [] x o a = (tt, tt)
order-last (m ∷ ms) x o a = (all_append (λ (y : Message). past_of m ≤ epoch_of y) ms (x ∷ []) o.0 (a.0, tt), order-last ms x o.1 a.1)

-- ---- [end, e]

-- a message that is [end, e]
is_end_lem : (e : EpochNo) (m : Message) → is_end e m ≡ true → (epoch_of m ≡ e.0) × (past_of m ≡ suc e.0)
unfolding is_end
is_end_lem e m h = let a = of_kind_lem 4 e m h in (a.0, past_end m a.1 ∙ ap suc a.0)

pub has_end-append : (e : EpochNo) (s t : List Message) → has_end e (s ++ t) ≡ has_end e s || has_end e t
unfolding has_end
has_end-append e s t = any_append (is_end e) s t

-- it is not taken out with a Val, nor with another epoch's messages
pub has_end-unread : (S : Setup) (e d : EpochNo) (g : Guest) (ms : List Message) → has_end e (unread S d g ms) ≡ has_end e ms
unfolding has_end unread drop_val is_end
has_end-unread S e d g ms =
    pick_case (λ (l : List Message). any (is_end e) l ≡ any (is_end e) ms) (at_time S g) (without (of_kind 1 d) ms) ms
    (λ _. any-without (is_end e) (of_kind 1 d) (λ m q. one-kind 1 4 d e m (λ z. omega arith) q) ms) (λ _. refl)

pub has_end-drop_epoch : (e d : EpochNo) → (e.0 ≡ d.0 → ⊥) → (ms : List Message) → has_end e (drop_epoch d ms) ≡ has_end e ms
unfolding has_end drop_epoch is_end of_epoch
has_end-drop_epoch e d n ms =
    any-keep (is_end e) (λ m. not (of_epoch d m))
    (λ m q. other_kind 4 e m (λ z. n (sym z ∙ eqb-true (epoch_of m) d.0 (not-false (eqb (epoch_of m) d.0) q)))) ms

-- where all that follows a message is of an epoch up to ep, an end is of an earlier one
pub ends_below : (ep : ℕ) (e : EpochNo) (ms : List Message) → All (λ m. past_of m ≤ ep) ms → has_end e ms ≡ true → e.0 < ep
unfolding has_end
ends_below ep e ms a h = all_any (λ (m : Message). past_of m ≤ ep) (is_end e) (e.0 < ep) (λ m q b. let z = (is_end_lem e m q).1 in omega arith) ms a h

-- behind [end, e] there are only later epochs, and before it none
pub order-after : (e : EpochNo) (s t : List Message) → InOrder (s ++ t) → has_end e s ≡ true → All (λ m. e.0 < epoch_of m) t
unfolding has_end
order-after e [] t o h = clash h (any-nil (is_end e))
order-after e (m ∷ s) t o h =
    by_cases (is_end e m)
    (λ q. let z = (is_end_lem e m q).1 in all_map (λ (x : Message). past_of m ≤ epoch_of x) (λ (x : Message). e.0 < epoch_of x) (λ x k. omega arith) t (all_right (λ (x : Message). past_of m ≤ epoch_of x) s t o.0))
    (λ q. order-after e s t o.1 (sym (any-later (is_end e) m s q) ∙ h))

pub order_before : (e : EpochNo) (s t : List Message) → InOrder (s ++ t) → has_end e t ≡ true → All (λ m. epoch_of m ≤ e.0) s
unfolding has_end
order_before e [] t o h = tt
order_before e (m ∷ s) t o h = (
  all_any (λ (x : Message). past_of m ≤ epoch_of x) (is_end e) (epoch_of m ≤ e.0) (λ x q b. let y = (is_end_lem e x q).0 in let z = past_least m in omega arith) t (all_right (λ (x : Message). past_of m ≤ epoch_of x) s t o.0) h,
  order_before e s t o.1 h,
)
