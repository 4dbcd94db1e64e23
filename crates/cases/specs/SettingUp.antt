-- Set-up: a program and L.
-- n times NOP, and then one instruction
use mathlib.Core.{List.{[], ◌++◌, ◌∷◌, List}, Path.◌≡◌}
use Rattle.std.specs.Prelude.{◌*◌, ℕ}
use lib.{ListN.replicate}
use Rattle.rules.specs.declared.Refusal.TheVariants.{BadProgram}
use Rattle.rules.specs.declared.Role.TheVariants.{Following}
use Rattle.rules.specs.PairSlots.{made, zero_pair}
use Rattle.rules.specs.Program.{under}
use Rattle.cases.specs.{Example.example, Trials.{card_b, card_p, epoch_no, pair_after}}
use Rattle.std.specs.Prelude.{None, Ok, Err}

unfoldable pub nops_and : ℕ → ℕ → ℕ → ℕ → ℕ → List ℕ
nops_and n c x y z = replicate (4 * n) 0 ++ (c ∷ x ∷ y ∷ z ∷ [])

-- "program or L bad" 8: no pair is made, and zeros stand in its place
abbrev pub NotMade : List ℕ → ℕ → Type 0
NotMade code l = made (under code l) ≡ record { answer = Err BadProgram; pair = zero_pair; shown = None }

abbrev pub Made : List ℕ → ℕ → Type 0
Made code l = (made (under code l)).answer ≡ Ok tt

pub record SettingUp : Type 0 where
  -- "L 0 and 4,097: 8; 1 and 4,096 taken"
  pub limit0 : NotMade example 0
  pub limit4097 : NotMade example 4097
  pub limit1 : Made example 1
  pub limit4096 : Made example 4096
  -- no instruction; 21 bytes; 1,025 instructions, while 5 go
  pub empty : NotMade [] 2
  pub not_in_fours : NotMade (example ++ (0 ∷ [])) 2
  pub too_many : NotMade (replicate 4100 0) 2
  pub nops : Made (nops_and 4 0 0 0 0) 2
  -- a bad instruction that no run would come to; a jump to the end of the program
  pub bad : NotMade (nops_and 4 9 0 0 0) 2
  pub jump : NotMade (nops_and 4 7 0 0 5) 2
  -- "P starts in epoch 1, B in epoch 0, following"
  pub epoch_p : (card_p example 2 []).epoch ≡ epoch_no 1
  pub epoch_b : (card_b example 2 []).epoch ≡ epoch_no 0
  pub role_b : (pair_after example 2 []).role ≡ Following
