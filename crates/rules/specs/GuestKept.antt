-- What keeps a guest sound: one instruction, and each part of the boundary; on the model, and of the guest in memory.
use Rattle.std.specs.Prelude.{false, true, List, ◌≡◌, ◌<◌, ℕ, length}
use Rattle.slots.specs.Slots.{every}
use Rattle.rules.specs.Boundary.{boundary, deliver, delivers, failover, restart, tell_uncertain, timer}
use Rattle.rules.specs.Decode.{decode}
use Rattle.rules.specs.Guest.{fresh}
use Rattle.rules.specs.GuestSlots.{laid_guest, seen_guest, sound_in_memory}
use Rattle.rules.specs.GuestSound.{proper, sound_guest}
use Rattle.rules.specs.Instruction.{complete, next, perform}
use Rattle.rules.specs.declared.Guest.{Guest}
use Rattle.rules.specs.declared.Instr.{Instr}
use Rattle.rules.specs.declared.Interrupt.{Interrupt}
use Rattle.std.specs.Prelude.{Some}

-- The acts that a guest goes through, under N and L. `Ok` is what they keep, and `on f g` does f to g.
pub record Kept (n l : ℕ) (Ok : Guest → Type 0) (on : (Guest → Guest) → Guest → Guest) : Type 0 where
  -- "An instruction runs only while the epoch isn't complete"; it is well formed, and c is the clock reading
  pub instruction : (code x y z : ℕ) (i : Instr) → decode code x y z n ≡ Some i → (c : ℕ) (g : Guest) → complete l g ≡ false → Ok g → Ok (on (λ h. (perform i h (next n h) c).guest) g)
  -- "buffered device interrupts .., each leaving the table and joining the queue": one, and all, with status and fields as in PINT
  pub delivery : (i : Interrupt) → proper i ≡ true → (g : Guest) → Ok g → Ok (on (λ h. deliver h i) g)
  pub deliveries : (is : List Interrupt) → every proper is ≡ true → (g : Guest) → Ok g → Ok (on (λ h. delivers h is) g)
  -- "next an uncertain interrupt .. for each operation still in the table"
  pub uncertainty : (g : Guest) → Ok g → Ok (on tell_uncertain g)
  -- "last, if armed and deadline ≤ clock, .."
  pub timers : (c : ℕ) (g : Guest) → Ok g → Ok (on (timer c) g)
  -- "Both epoch counts become 0"
  pub restarts : (g : Guest) → Ok g → Ok (on restart g)
  -- "Boundary(clock)", and "in a failover epoch"
  pub boundaries : (is : List Interrupt) → every proper is ≡ true → (c : ℕ) (g : Guest) → Ok g → Ok (on (boundary is c) g)
  pub failovers : (is : List Interrupt) → every proper is ≡ true → (c : ℕ) (g : Guest) → Ok g → Ok (on (failover is c) g)

-- all of it, of an instruction and of each part of a boundary
pub record GuestKept : Type 0 where
  -- "Fresh: all zero"
  pub start : (n l : ℕ) → 0 < n → sound_guest n l fresh ≡ true
  pub model : (n l : ℕ) → Kept n l (λ g. sound_guest n l g ≡ true) (λ f g. f g)
  -- a sound guest, laid out in its slots, is sound in memory: "slots filled from the front, the rest zero"
  pub laid : (n l : ℕ) (g : Guest) → sound_guest n l g ≡ true → sound_in_memory n l (laid_guest g) ≡ true
  -- so each act on what a guest in memory holds, laid out again, leaves it sound in memory
  pub in_memory : (n l : ℕ) → Kept n l (λ g. sound_in_memory n l g ≡ true) (λ f g. laid_guest (f (seen_guest g)))

-- a guest in memory that is sound under N and L; the lengths are those of its types
pub record SoundGuest (n l : ℕ) (g : Guest) : Type 0 where
  pub table : length g.table ≡ 16
  pub queue : length g.queue ≡ 17
  pub sound : sound_in_memory n l g ≡ true
