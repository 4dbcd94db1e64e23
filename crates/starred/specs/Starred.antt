-- "The starred cases are one proved list over the definitions": 01, "Checked by example".
use Rattle.cases.specs.Example.{CheckedByExample}
use Rattle.image.specs.Cases.{Retiring}
use Rattle.starred.specs.Printed.{Printed}

pub record Starred : Type 0 where
  -- A, B: "Bench prints exactly"; C's lines too
  pub printed : Printed
  -- A, B and C on the pair; each refusal in its situation; 7 / 0 and 4,294,967,295 + 1
  pub on_the_pair : CheckedByExample
  -- "Retire into 3,443 bytes: 9, all zero; 3,444: fresh"
  pub retiring : Retiring
