-- 01, "Checked by example": what the bench prints, byte for byte.
use Rattle.std.specs.Prelude.{List, [], ◌∷◌, ◌++◌, ◌≡◌, ℕ, take}
use Rattle.desk.specs.Bench.{printed}
use Rattle.cases.specs.{Example.{case_a, case_b, case_c, example}, Trials.{DETECT, LINK, PSTEP}}
use Rattle.runfile.specs.RunFile.{run_bytes}
use Rattle.words.specs.Arrays.{each}

-- a run file of 01's program with these events, L = 2
unfoldable pub file_of : List (List ℕ) → List ℕ
file_of events = run_bytes 2 example (each (λ e. e) events)

pub record Printed : Type 0 where
  -- "A: .. Bench prints exactly `1 2 7`, `2 2 7`, `end 0 13`"
  pub prints_a : printed (file_of case_a)
      ≡ 49 ∷ 32 ∷ 50 ∷ 32 ∷ 55 ∷ 10
      ∷ 50 ∷ 32 ∷ 50 ∷ 32 ∷ 55 ∷ 10
      ∷ 101 ∷ 110 ∷ 100 ∷ 32 ∷ 48 ∷ 32 ∷ 49 ∷ 51 ∷ 10 ∷ []
  -- "B: as A without the second PSTEP: `2 2 7`, `end 0 12`"
  pub prints_b : printed (file_of case_b)
      ≡ 50 ∷ 32 ∷ 50 ∷ 32 ∷ 55 ∷ 10
      ∷ 101 ∷ 110 ∷ 100 ∷ 32 ∷ 48 ∷ 32 ∷ 49 ∷ 50 ∷ 10 ∷ []
  -- C: ten events, of which the second PSTEP shows
  pub prints_c : printed (file_of case_c)
      ≡ 49 ∷ 32 ∷ 50 ∷ 32 ∷ 55 ∷ 10
      ∷ 101 ∷ 110 ∷ 100 ∷ 32 ∷ 48 ∷ 32 ∷ 49 ∷ 48 ∷ 10 ∷ []
  -- "DETECT before LINK: 4": four events were taken before it
  pub detect_early : printed (file_of (take 4 case_c ++ (DETECT ∷ LINK ∷ [])))
      ≡ 49 ∷ 32 ∷ 50 ∷ 32 ∷ 55 ∷ 10
      ∷ 101 ∷ 110 ∷ 100 ∷ 32 ∷ 52 ∷ 32 ∷ 52 ∷ 10 ∷ []
  -- "Third PSTEP: 3"
  pub third_step : printed (file_of (PSTEP 0 ∷ PSTEP 0 ∷ PSTEP 0 ∷ []))
      ≡ 49 ∷ 32 ∷ 50 ∷ 32 ∷ 55 ∷ 10
      ∷ 101 ∷ 110 ∷ 100 ∷ 32 ∷ 51 ∷ 32 ∷ 50 ∷ 10 ∷ []
  -- no events
  pub no_events : printed (file_of [])
      ≡ 101 ∷ 110 ∷ 100 ∷ 32 ∷ 48 ∷ 32 ∷ 48 ∷ 10 ∷ []
  -- "A bad run file gives only `end 10 0`": no bytes, and a file whose last byte is missing
  pub empty_file : printed []
      ≡ 101 ∷ 110 ∷ 100 ∷ 32 ∷ 49 ∷ 48 ∷ 32 ∷ 48 ∷ 10 ∷ []
  pub cut_file : printed (take 151 (file_of case_a))
      ≡ 101 ∷ 110 ∷ 100 ∷ 32 ∷ 49 ∷ 48 ∷ 32 ∷ 48 ∷ 10 ∷ []
  -- "a bad program or L only `end 8 0`": an instruction of code 9; L 0 and 4,097
  pub bad_program : printed (run_bytes 2 (9 ∷ 0 ∷ 0 ∷ 0 ∷ []) (PSTEP 0))
      ≡ 101 ∷ 110 ∷ 100 ∷ 32 ∷ 56 ∷ 32 ∷ 48 ∷ 10 ∷ []
  pub limit0 : printed (run_bytes 0 example (PSTEP 0))
      ≡ 101 ∷ 110 ∷ 100 ∷ 32 ∷ 56 ∷ 32 ∷ 48 ∷ 10 ∷ []
  pub limit4097 : printed (run_bytes 4097 example (PSTEP 0))
      ≡ 101 ∷ 110 ∷ 100 ∷ 32 ∷ 56 ∷ 32 ∷ 48 ∷ 10 ∷ []
