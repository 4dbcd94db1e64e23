-- The lone card's steps.
-- `example` with L = 2 on the lone card, from a fresh one
use mathlib.Core.{Bool.{Bool, false, true}, List.{[], ◌++◌, ◌∷◌, List}, Path.◌≡◌}
use Rattle.rules.specs.{declared.RecordEntry.RecordEntry, Lone.{bound, fresh_lone, instruction, interrupt, Lone, LoneStep, lone_steps}, Program.under}
use Rattle.cases.specs.{Example.example, Guest.status, Trials.entry}
use Rattle.std.specs.Prelude.{Option, Some, None}

unfoldable pub lone_after : List LoneStep → Option Lone
lone_after steps = lone_steps (under example 2) (Some fresh_lone) steps

-- its record, if all steps are allowed
unfoldable pub lone_record : Option Lone → Option (List RecordEntry)
lone_record None = None
lone_record (Some c) = Some c.shown

-- the first epoch: START reaches its device or not
unfoldable pub lone_epoch : Bool → List LoneStep
lone_epoch b = instruction 0 false ∷ instruction 0 b ∷ []

pub record LoneCard : Type 0 where
  -- "Its record holds the STARTs that reached a device"
  pub reaches : lone_record (lone_after (lone_epoch true)) ≡ Some (entry 1 2 7 ∷ [])
  pub hidden : lone_record (lone_after (lone_epoch false)) ≡ Some []
  -- only an operation that was started reaches a device
  pub nothing : lone_after (instruction 0 true ∷ []) ≡ None
  -- "An instruction runs only while the epoch isn't complete"; "boundary(word) when complete"
  pub complete : lone_after (lone_epoch true ++ (instruction 0 false ∷ [])) ≡ None
  pub early : lone_after (instruction 0 false ∷ bound 0 ∷ []) ≡ None
  -- "interrupt .. for an operation in the table and not yet buffered"
  pub unknown : lone_after (lone_epoch true ++ (interrupt (status 1 2 9) ∷ [])) ≡ None
  pub twice : lone_after (lone_epoch true ++ (interrupt (status 1 1 9) ∷ interrupt (status 1 1 9) ∷ [])) ≡ None
  pub told : lone_record (lone_after (lone_epoch true ++ (interrupt (status 1 1 9) ∷ []))) ≡ Some (entry 1 2 7 ∷ [])
  -- "status 1 only if it reached its device, data 0 for status 2"
  pub unreached : lone_after (lone_epoch false ++ (interrupt (status 1 1 9) ∷ [])) ≡ None
  pub with_data : lone_after (lone_epoch true ++ (interrupt (status 2 1 9) ∷ [])) ≡ None
  pub status3 : lone_after (lone_epoch true ++ (interrupt (status 3 1 0) ∷ [])) ≡ None
  pub uncertain : lone_record (lone_after (lone_epoch false ++ (interrupt (status 2 1 0) ∷ bound 0 ∷ instruction 0 false ∷ instruction 0 false ∷ bound 0 ∷ instruction 0 false ∷ instruction 0 true ∷ []))) ≡ Some (entry 2 2 7 ∷ [])
