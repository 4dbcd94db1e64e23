-- One instruction on a sound guest in memory.
use Rattle.std.proofs.Common.{◌≡◌, ℕ, true, false}
use Rattle.rules.proofs.Choices.{by_cases}
use Rattle.rules.proofs.GuestKept.{guest-kept, sound-again, sound-fits, sound-seen}
use Rattle.rules.specs.Decode.{decode}
use Rattle.rules.specs.GuestKept.{SoundGuest}
use Rattle.rules.specs.GuestSlots.{laid_ran, seen_guest, sound_in_memory}
use Rattle.rules.specs.GuestSound.{sound_guest}
use Rattle.rules.specs.Instruction.{complete, next, perform, quiet}
use Rattle.rules.specs.declared.Guest.{Guest}
use Rattle.rules.specs.declared.Instr.{Instr}
use Rattle.guest.proofs.Laid.{laid-instruction}
use Rattle.guest.specs.InSlots.{instruction_in}
use Rattle.guest.specs.Kept.{InstructionKept}
use Rattle.std.specs.Prelude.{Some}

module _ (n l : ℕ) (g : Guest) (s : SoundGuest n l g) where
  rule : (i : Instr) (c : ℕ) → complete l g ≡ false → instruction_in i g n l c ≡ laid_ran (perform i (seen_guest g) (next n g) c)
  rule i c e = laid-instruction i g n l c (sound-again n l g s) (sound-fits n l g s) e

  -- neither the counts nor the pc are in slots
  runs : (code x y z : ℕ) (i : Instr) → decode code x y z n ≡ Some i → (c : ℕ) → complete l g ≡ false → sound_guest n l (perform i (seen_guest g) (next n g) c).guest ≡ true
  unfolding next complete seen_guest
  runs code x y z i d c e = (guest-kept.model n l).instruction code x y z i d c (seen_guest g) e (sound-seen n l g s)

  -- in a complete epoch nothing runs
  stays : (i : Instr) (c : ℕ) → complete l g ≡ true → instruction_in i g n l c ≡ quiet g
  unfolding instruction_in
  stays i c e = rw e

  kept : (code x y z : ℕ) (i : Instr) → decode code x y z n ≡ Some i → (c : ℕ) → sound_in_memory n l (instruction_in i g n l c).guest ≡ true
  unfolding laid_ran
  kept code x y z i d c =
      by_cases (complete l g)
      (λ e. rw (stays i c e) s.sound)
      (λ e. rw (rule i c e) (guest-kept.laid n l (perform i (seen_guest g) (next n g) c).guest (runs code x y z i d c e)))

  pub instruction-kept : InstructionKept n l g
  instruction-kept = record { rule = rule; sound = kept }
