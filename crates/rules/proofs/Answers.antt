-- 01's numbers: each is one answer's, and 0 alone is no refusal.
use mathlib.Core.Path.{◌≡◌, ◌∙◌, ap, refl, sym}
use Prim.Native.Nat.{◌≤◌, ℕ}
use lib.Dec.{eqb, lit≤}
use native.Mathlib.Omega.{arith}
use Rattle.slots.specs.Slots.{pick}
use Rattle.rules.specs.Events.{number}
use Rattle.rules.specs.PairSlots.{answer_number}
use Rattle.rules.specs.declared.Refusal.{Refusal}
use Rattle.rules.specs.declared.Refusal.TheVariants.{BadFile, BadProgram, Dead, EpochsUsedUp, InboxFull, Malformed, MustWait, OutOfTurn, TooShort, UnknownOperation, Unsound}
use Rattle.rules.specs.Answer.{Answer}
use Rattle.std.specs.Prelude.{Ok, Err}

-- the refusal of a number
named : ℕ → Refusal
named n =
    pick (eqb n 1) Malformed (pick (eqb n 2) Dead (pick (eqb n 3) OutOfTurn (pick (eqb n 4) MustWait (pick (eqb n 5) UnknownOperation
    (pick (eqb n 6) InboxFull (pick (eqb n 7) EpochsUsedUp (pick (eqb n 8) BadProgram (pick (eqb n 9) TooShort (pick (eqb n 10) BadFile Unsound)))))))))

named_number : (why : Refusal) → (named (number why) ≡ why) × (1 ≤ number why)
unfolding named number
named_number Malformed = (refl, lit≤ tt)
named_number Dead = (refl, lit≤ tt)
named_number OutOfTurn = (refl, lit≤ tt)
named_number MustWait = (refl, lit≤ tt)
named_number UnknownOperation = (refl, lit≤ tt)
named_number InboxFull = (refl, lit≤ tt)
named_number EpochsUsedUp = (refl, lit≤ tt)
named_number BadProgram = (refl, lit≤ tt)
named_number TooShort = (refl, lit≤ tt)
named_number BadFile = (refl, lit≤ tt)
named_number Unsound = (refl, lit≤ tt)

-- no two refusals have one number, and none has 0
pub one_number : (w why : Refusal) → number w ≡ number why → w ≡ why
one_number w why q = sym (named_number w).0 ∙ ap named q ∙ (named_number why).0

pub not_zero : (why : Refusal) → 1 ≤ number why
not_zero why = (named_number why).1

-- the answer 0
pub zero-taken : (a : Answer) → answer_number a ≡ 0 → a ≡ Ok tt
unfolding answer_number
zero-taken (Ok tt) q = refl
zero-taken (Err why) q = absurd (let k = not_zero why in omega arith)

pub taken-zero : {a : Answer} → a ≡ Ok tt → answer_number a ≡ 0
unfolding answer_number
taken-zero q = ap answer_number q

-- every other is a refusal
pub is-refused : (a : Answer) → (answer_number a ≡ 0 → ⊥) → (why : Refusal) × (a ≡ Err why)
unfolding answer_number
is-refused (Ok tt) q = absurd (q refl)
is-refused (Err why) q = (why, refl)
