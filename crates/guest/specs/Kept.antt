-- What is promised of one instruction on a sound guest in memory.
use Rattle.std.specs.Prelude.{◌≡◌, ℕ, true, false}
use Rattle.rules.specs.Decode.{decode}
use Rattle.rules.specs.GuestSlots.{laid_ran, seen_guest, sound_in_memory}
use Rattle.rules.specs.Instruction.{complete, next, perform}
use Rattle.rules.specs.declared.Guest.{Guest}
use Rattle.rules.specs.declared.Instr.{Instr}
use Rattle.guest.specs.InSlots.{instruction_in}
use Rattle.std.specs.Prelude.{Some}

-- a guest that is sound under N and L
pub record InstructionKept (n l : ℕ) (g : Guest) : Type 0 where
  -- what the code does is the rule, laid out in the slots
  pub rule : (i : Instr) (c : ℕ) → complete l g ≡ false → instruction_in i g n l c ≡ laid_ran (perform i (seen_guest g) (next n g) c)
  -- and a well formed instruction leaves the guest sound: free slots zero, and all of 01's conditions
  pub sound : (code x y z : ℕ) (i : Instr) → decode code x y z n ≡ Some i → (c : ℕ) → sound_in_memory n l (instruction_in i g n l c).guest ≡ true
