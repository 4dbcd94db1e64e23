-- The lone card: the same guest, with no second card.
use Rattle.std.specs.Prelude.{Bool, true, false, not, ◌&&◌, ◌||◌, List, [], ◌∷◌, ◌++◌, map, ℕ, eqb}
use Rattle.slots.specs.Slots.{pick}
use Rattle.rules.specs.declared.OpNo.{OpNo}
use Rattle.rules.specs.declared.Interrupt.{Interrupt}
use Rattle.rules.specs.declared.Guest.{Guest}
use Rattle.rules.specs.declared.RecordEntry.{RecordEntry}
use Rattle.rules.specs.declared.Ran.{Ran}
use Rattle.rules.specs.Guest.{fresh, listed, ops_of}
use Rattle.rules.specs.Instruction.{complete}
use Rattle.rules.specs.Boundary.{boundary}
use Rattle.rules.specs.Program.{Setup, bad, exec}
use Rattle.rules.specs.GuestSound.{says}
use Rattle.rules.specs.Messages.{only}
use Rattle.rules.specs.History.{recorded}
use Rattle.std.specs.Prelude.{Option, Some, None}

-- its guest, the interrupts buffered, and its record
pub record Lone : Type 0 where
  pub guest : Guest
  pub buffer : List Interrupt
  pub shown : List RecordEntry

-- "instruction(word, reaches device or not); interrupt(operation, status, data) ..; boundary(word)"
pub data LoneStep : Type 0 where
  instruction : ℕ → Bool → LoneStep
  interrupt : Interrupt → LoneStep
  bound : ℕ → LoneStep

-- the operation reached its device
unfoldable pub reached : OpNo → List RecordEntry → Bool
reached n es = listed n (map (λ (e : RecordEntry). e.op) es)

-- "for an operation in the table and not yet buffered, status 1 only if it reached its device, data 0 for status 2"
unfoldable pub may_tell : Lone → Interrupt → Bool
may_tell c i =
    says i
    && ((listed i.op c.guest.table && not (listed i.op (ops_of c.buffer)))
    && (eqb i.status 2 || reached i.op c.shown))

-- was an operation started?
unfoldable pub is_shown : Option RecordEntry → Bool
is_shown None = false
is_shown (Some e) = true

module _ (S : Setup) where
  -- "An instruction runs only while the epoch isn't complete"; a bad one never runs, and only an operation that was started reaches a device
  unfoldable pub may_run : Guest → ℕ → Bool → Bool
  may_run g w b = (not (complete S.limit g) && not (bad S g)) && (not b || is_shown (exec S g w).shown)

  -- none: the step is not allowed. "Its record holds the STARTs that reached a device"; "boundary(word) when complete"
  unfoldable pub lone_step : Lone → LoneStep → Option Lone
  lone_step c (instruction w b) =
      let ran : Ran = exec S c.guest w in
      only (may_run c.guest w b) (record { guest = ran.guest; buffer = c.buffer; shown = pick b (recorded c.shown ran.shown) c.shown })
  lone_step c (interrupt i) =
      only (may_tell c i) (record { guest = c.guest; buffer = c.buffer ++ (i ∷ []); shown = c.shown })
  lone_step c (bound w) =
      only (complete S.limit c.guest) (record { guest = boundary c.buffer w c.guest; buffer = []; shown = c.shown })

  -- one step after the other; none, where one is not allowed
  unfoldable pub lone_steps : Option Lone → List LoneStep → Option Lone
  lone_steps c [] = c
  lone_steps None (s ∷ ss) = None
  lone_steps (Some c) (s ∷ ss) = lone_steps (lone_step c s) ss

-- a fresh guest, nothing buffered, nothing shown
unfoldable pub fresh_lone : Lone
fresh_lone = record { guest = fresh; buffer = []; shown = [] }
