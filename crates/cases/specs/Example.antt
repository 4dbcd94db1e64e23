-- 01, "Checked by example": the cases on a pair, starred and not. Those on retiring stand in crate image, what the bench prints in crate desk.
use mathlib.Core.{List.{[], ◌∷◌, List}, Path.◌≡◌}
use Rattle.std.specs.Prelude.{ℕ}
use lib.{ListN.take}
use Rattle.rules.specs.{declared.Role.TheVariants.Promoted}
use Rattle.cases.specs.{Guest.status, Trials.{ACK, BEND, BSTEP, card_p, DETECT, entry, FAIL, Goes, LINK, PEND, PINT, Prints, PSTEP, PTIME, RefusesAfter, repeated, Stands}}

-- ---- "Checked by example"

-- "Program: `01 01 00 07`, `11 01 02 03`, `08 04 05 06`, `07 04 00 02`, `07 00 00 01` (hex); L = 2."
unfoldable pub example : List ℕ
example = 1 ∷ 1 ∷ 0 ∷ 7 ∷ 17 ∷ 1 ∷ 2 ∷ 3 ∷ 8 ∷ 4 ∷ 5 ∷ 6 ∷ 7 ∷ 4 ∷ 0 ∷ 2 ∷ 7 ∷ 0 ∷ 0 ∷ 1 ∷ []

unfoldable pub case_a : List (List ℕ)
case_a = PSTEP 0 ∷ PSTEP 0 ∷ FAIL ∷ DETECT ∷ BEND 0 ∷ BSTEP 0 ∷ BSTEP 0 ∷ BEND 0 ∷ BSTEP 0 ∷ BSTEP 0 ∷ BEND 0 ∷ BSTEP 0 ∷ BSTEP 0 ∷ []

-- "as A without the second PSTEP"
unfoldable pub case_b : List (List ℕ)
case_b = PSTEP 0 ∷ FAIL ∷ DETECT ∷ BEND 0 ∷ BSTEP 0 ∷ BSTEP 0 ∷ BEND 0 ∷ BSTEP 0 ∷ BSTEP 0 ∷ BEND 0 ∷ BSTEP 0 ∷ BSTEP 0 ∷ []

unfoldable pub case_c : List (List ℕ)
case_c = PSTEP 0 ∷ PSTEP 0 ∷ PINT 1 1 9 ∷ FAIL ∷ LINK ∷ DETECT ∷ BEND 0 ∷ BSTEP 0 ∷ BSTEP 0 ∷ BEND 0 ∷ []

-- r1 = 7; r2 = r1 / r0; r3 = 1; r3 = r2 + r3
unfoldable pub arithmetic : List ℕ
arithmetic = 1 ∷ 1 ∷ 0 ∷ 7 ∷ 4 ∷ 2 ∷ 1 ∷ 0 ∷ 1 ∷ 3 ∷ 0 ∷ 1 ∷ 2 ∷ 3 ∷ 2 ∷ 3 ∷ []

pub record CheckedByExample : Type 0 where
  -- A prints exactly `1 2 7`, `2 2 7`, `end 0 13`
  pub shows_a : Prints example 2 case_a (entry 1 2 7 ∷ entry 2 2 7 ∷ [])
  -- in A, B's failover boundary (the eighth event) tells that operation 1 is uncertain
  pub uncertain_a : Stands example 2 (take 8 case_a) (Promoted, 2, status 2 1 0 ∷ [])
  -- B prints `2 2 7`, `end 0 12`
  pub shows_b : Prints example 2 case_b (entry 2 2 7 ∷ [])
  -- C: "completion with 9 queued, nothing uncertain"
  pub completed_c : Stands example 2 case_c (Promoted, 2, status 1 1 9 ∷ [])
  -- "DETECT before LINK: 4"
  pub detect_early : RefusesAfter example 2 (take 4 case_c) DETECT 4
  -- "Third PSTEP: 3"
  pub third_step : RefusesAfter example 2 (take 2 case_c) (PSTEP 0) 3
  -- "PINT op 2 after two PSTEPs: 5. Same PINT twice: 5"
  pub unknown : RefusesAfter example 2 (take 2 case_c) (PINT 1 2 9) 5
  pub twice : RefusesAfter example 2 (take 3 case_c) (PINT 1 1 9) 5
  -- "PSTEP PSTEP PTIME PEND: 4. With LINK ACK before PEND: 0"
  pub waits : RefusesAfter example 2 (PSTEP 0 ∷ PSTEP 0 ∷ PTIME 0 ∷ []) PEND 4
  pub goes : Goes example 2 (PSTEP 0 ∷ PSTEP 0 ∷ PTIME 0 ∷ LINK ∷ ACK ∷ PEND ∷ [])
  -- "7 / 0 gives 4,294,967,295. 4,294,967,295 + 1 gives 0"
  pub sums : (card_p arithmetic 4 (repeated 4 (PSTEP 0 ∷ []))).guest.regs ≡ 0 ∷ 7 ∷ 4294967295 ∷ 0 ∷ 0 ∷ 0 ∷ 0 ∷ 0 ∷ []
