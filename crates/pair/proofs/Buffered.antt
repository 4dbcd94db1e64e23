-- The operations of buffered interrupts: each in a list, and none twice.
use Rattle.std.proofs.Common.{◌≡◌, refl, ap, Bool, true, false, ◌&&◌, List, [], ◌∷◌, length, arith}
use Rattle.rules.specs.Guest.{listed, ops_of}
use Rattle.rules.specs.GuestSlots.{used_interrupt}
use Rattle.rules.specs.Sound.{once}
use Rattle.rules.specs.declared.Interrupt.{Interrupt}
use Rattle.rules.specs.declared.OpNo.{OpNo}
use Rattle.slots.proofs.Entries.{entries-every}
use Rattle.slots.proofs.Lists.{every_head}
use Rattle.slots.specs.Slots.{entries, every}

-- a test of each operation
pub every_op : (p : OpNo → Bool) (is : List Interrupt) → every (λ (i : Interrupt). p i.op) is ≡ every p (ops_of is)
unfolding every ops_of
every_op p [] = refl
every_op p (i ∷ is) = ap (λ (b : Bool). p i.op && b) (every_op p is)

-- of slots in use, at the first and where none is left
module _ (rest : List Interrupt) where
  module _ (i : Interrupt) (later : List Interrupt) (is : rest ≡ i ∷ later) (used : every used_interrupt rest ≡ true) where
    pub used_later : every used_interrupt later ≡ true
    used_later = (every_head used_interrupt i later (rw is at used)).1

    pub once_later : listed i.op (ops_of (entries used_interrupt later)) ≡ false → once (ops_of rest) ≡ once (ops_of later)
    unfolding once ops_of
    once_later e = rw (is, (rw (entries-every used_interrupt later used_later) at e))

    pub not_once : listed i.op (ops_of (entries used_interrupt later)) ≡ true → once (ops_of rest) ≡ false
    unfolding once ops_of
    not_once e = rw (is, (rw (entries-every used_interrupt later used_later) at e))

pub once-none : (rest : List Interrupt) → length rest ≡ 0 → once (ops_of rest) ≡ true
unfolding once ops_of
once-none [] e = refl
once-none (i ∷ is) e = absurd (omega (arith, e))
