-- The parts of an image are lawful forms.
use mathlib.Core.Path.{◌≡◌, refl, sym}
use mathlib.Core.Bool.{true, ◌&&◌, ◌||◌, false≢true}
use Prim.Native.Nat.{ℕ, zero, suc}
use native.Mathlib.Omega.{arith}
use lib.Dec.{eqb, leb}
use borrow.Author.Tests.{leb-true, eqb-true}
use Rattle.slots.proofs.Tests.{and_true}
use Rattle.forms.proofs.Form.{AnyThing}
use Rattle.forms.specs.Stored.{any}
use Rattle.forms.proofs.Lawful.{Lawful, byte_lawful, half_lawful, word_lawful, flag_lawful, always_lawful, anything, ◌and_then◌, array_lawful, stored_as_lawful}
use Rattle.rules.specs.Pair.{clock_sent}
use Rattle.rules.specs.declared.Phase.{Phase}
use Rattle.rules.specs.declared.Phase.TheVariants.{Running, Waiting, Failed}
use Rattle.rules.specs.declared.Role.{Role}
use Rattle.rules.specs.declared.Role.TheVariants.{Following, Failover, Promoted}
use Rattle.layout.specs.Fields.{operation, epoch, interrupt, message, front, guest, role, role_number, role_of, phase_number, phase_of, phase_may}
use Rattle.layout.specs.Image.{GuestSized}

pub operation_lawful : Lawful operation AnyThing
operation_lawful = stored_as_lawful half_lawful _ _ any (λ o h. (tt, refl, refl)) (λ n h. refl)

pub epoch_lawful : Lawful epoch AnyThing
epoch_lawful = stored_as_lawful half_lawful _ _ any (λ o h. (tt, refl, refl)) (λ n h. refl)

pub interrupt_lawful : Lawful interrupt AnyThing
interrupt_lawful =
    stored_as_lawful (byte_lawful and_then always_lawful byte_lawful 0 and_then operation_lawful and_then word_lawful) _ _ any
    (λ i h. (search, refl, refl)) (λ t h. refl)

pub message_lawful : Lawful message AnyThing
message_lawful =
    stored_as_lawful (byte_lawful and_then byte_lawful and_then epoch_lawful and_then operation_lawful and_then always_lawful half_lawful 0 and_then word_lawful) _ _ any
    (λ m h. (search, refl, refl)) (λ t h. refl)

pub front_lawful : Lawful front AnyThing
front_lawful = anything (half_lawful and_then half_lawful and_then byte_lawful and_then flag_lawful and_then operation_lawful and_then word_lawful) (λ t. search)

pub guest_lawful : Lawful guest GuestSized
guest_lawful =
    stored_as_lawful
    (front_lawful and_then array_lawful word_lawful 8 and_then array_lawful word_lawful 64 and_then array_lawful operation_lawful 16 and_then array_lawful interrupt_lawful 17)
    _ _ any
    (λ g h. (((((tt, h.regs), h.mem), h.table), h.queue), refl, refl)) (λ t h. refl)

role_back : (o : Role) → (role_of (role_number o) ≡ o) × (leb 1 (role_number o) && leb (role_number o) 3 ≡ true)
unfolding role_of role_number
role_back Following = (refl, refl)
role_back Failover = (refl, refl)
role_back Promoted = (refl, refl)

-- a number from 1 to 3 is one of these
from_1_to_3 : (P : ℕ → Type 0) → P 1 → P 2 → P 3 → (n : ℕ) → leb 1 n && leb n 3 ≡ true → P n
from_1_to_3 P a b c zero h = absurd (false≢true h)
from_1_to_3 P a b c (suc zero) h = a
from_1_to_3 P a b c (suc (suc zero)) h = b
from_1_to_3 P a b c (suc (suc (suc zero))) h = c
from_1_to_3 P a b c (suc (suc (suc (suc n)))) h = let m = suc (suc (suc (suc n))) in absurd (omega (arith, leb-true m 3 (and_true (leb 1 m) (leb m 3) h).1))

role-again : (n : ℕ) → leb 1 n && leb n 3 ≡ true → role_number (role_of n) ≡ n
unfolding role_of role_number
role-again = from_1_to_3 (λ n. role_number (role_of n) ≡ n) refl refl refl

-- a phase, by its number and the clock that it keeps
pub phase_back : (f : Phase) → (phase_of (phase_number f) (clock_sent f) ≡ f) × (phase_may (phase_number f) (clock_sent f) ≡ true)
unfolding phase_of phase_number phase_may clock_sent
phase_back Running = (refl, refl)
phase_back (Waiting c) = (refl, refl)
phase_back Failed = (refl, refl)

pub phase_again : (n c : ℕ) → phase_may n c ≡ true → (phase_number (phase_of n c) ≡ n) × (clock_sent (phase_of n c) ≡ c)
unfolding phase_of phase_number phase_may clock_sent
phase_again n c h =
    let k = and_true (leb 1 n && leb n 3) (eqb n 2 || eqb c 0) h in
    from_1_to_3 (λ m. eqb m 2 || eqb c 0 ≡ true → (phase_number (phase_of m c) ≡ m) × (clock_sent (phase_of m c) ≡ c))
    (λ z. (refl, sym (eqb-true c 0 z))) (λ z. (refl, refl)) (λ z. (refl, sym (eqb-true c 0 z))) n k.0 k.1

pub role_lawful : Lawful role AnyThing
role_lawful = stored_as_lawful byte_lawful role_of role_number _ (λ o h. (tt, (role_back o).0, (role_back o).1)) role-again
