-- The messages from P to B: made, read, and taken out.
use Rattle.std.specs.Prelude.{Bool, true, false, not, ◌&&◌, List, [], ◌∷◌, ℕ, eqb}
use Rattle.slots.specs.Slots.{keep, any, without}
use Rattle.rules.specs.declared.Interrupt.{Interrupt}
use Rattle.rules.specs.declared.EpochNo.{EpochNo}
use Rattle.rules.specs.declared.Message.{Message}
use Rattle.std.specs.Prelude.{Option, Some, None}

-- "kind (1 Val, 2 Int, 3 Tme, 4 end)"; unused fields 0
unfoldable pub val : EpochNo → ℕ → Message
val e w = record { kind = 1; status = 0; epoch = e; op = record { 0 = 0 }; word = w }

unfoldable pub int : EpochNo → Interrupt → Message
int e i = record { kind = 2; status = i.status; epoch = e; op = i.op; word = i.word }

unfoldable pub tme : EpochNo → ℕ → Message
tme e w = record { kind = 3; status = 0; epoch = e; op = record { 0 = 0 }; word = w }

unfoldable pub end : EpochNo → Message
end e = record { kind = 4; status = 0; epoch = e; op = record { 0 = 0 }; word = 0 }

-- is it of epoch e? is it of this kind, of epoch e?
unfoldable pub of_epoch : EpochNo → Message → Bool
of_epoch e m = eqb m.epoch.0 e.0

unfoldable pub of_kind : ℕ → EpochNo → Message → Bool
of_kind k e m = of_epoch e m && eqb m.kind k

-- the interrupt that an Int carries
unfoldable pub interrupt_of : Message → Interrupt
interrupt_of m = record { status = m.status; op = m.op; word = m.word }

-- `only b x`: x where the test holds
unfoldable pub only : {X : Type 0} → Bool → X → Option X
only true x = Some x
only false x = None

-- the clock in a Val of epoch e, the interrupt in an Int of e, the clock in a Tme of e
unfoldable pub val_of : EpochNo → Message → Option ℕ
val_of e m = only (of_kind 1 e m) m.word

unfoldable pub int_of : EpochNo → Message → Option Interrupt
int_of e m = only (of_kind 2 e m) (interrupt_of m)

unfoldable pub tme_of : EpochNo → Message → Option ℕ
tme_of e m = only (of_kind 3 e m) m.word

-- is it [end, e]?
unfoldable pub is_end : EpochNo → Message → Bool
is_end e m = of_kind 4 e m

-- what was found, in front of the rest
unfoldable pub place : {X : Type 0} → Option X → List X → List X
place None l = l
place (Some x) l = x ∷ l

-- what f finds in the messages, in their order
unfoldable pub gather : {X : Type 0} → (Message → Option X) → List Message → List X
gather f [] = []
gather f (m ∷ ms) = place (f m) (gather f ms)

-- the clocks in the Vals of epoch e, the interrupts in its Ints, the clocks in its Tmes
unfoldable pub vals : EpochNo → List Message → List ℕ
vals e ms = gather (val_of e) ms

unfoldable pub ints : EpochNo → List Message → List Interrupt
ints e ms = gather (int_of e) ms

unfoldable pub tmes : EpochNo → List Message → List ℕ
tmes e ms = gather (tme_of e) ms

-- is [end, e] among them?
unfoldable pub has_end : EpochNo → List Message → Bool
has_end e ms = any (is_end e) ms

-- the messages without the first Val of epoch e; without those of epoch e
unfoldable pub drop_val : EpochNo → List Message → List Message
drop_val e ms = without (of_kind 1 e) ms

-- without those of epoch e
unfoldable pub drop_epoch : EpochNo → List Message → List Message
drop_epoch e ms = keep (λ m. not (of_epoch e m)) ms

-- "the first .., else the word"
unfoldable pub first : List ℕ → ℕ → ℕ
first [] w = w
first (c ∷ cs) w = c
