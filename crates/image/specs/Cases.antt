-- 01's two starred cases on retiring: "Retire into 3,443 bytes: 9, all zero; 3,444: fresh".
use Rattle.std.specs.Prelude.{◌≡◌}
use Rattle.cases.specs.Example.{example}
use Rattle.layout.specs.Cases.{fresh_bytes}
use Rattle.rules.specs.{PairSlots.answer_number, Program.{Setup, under}}
use Rattle.image.specs.Stores.{retire_answer, retire_leaves, zeros}

-- 01's program, with L = 2
abbrev pub example_setup : Setup
example_setup = under example 2

pub record Retiring : Type 0 where
  pub short_answer : answer_number (retire_answer example_setup 3443) ≡ 9
  pub short_leaves : retire_leaves example_setup 3443 ≡ zeros 3443
  -- byte for byte
  pub exact_answer : answer_number (retire_answer example_setup 3444) ≡ 0
  pub exact_leaves : retire_leaves example_setup 3444 ≡ fresh_bytes
