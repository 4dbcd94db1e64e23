-- Those before the next have been put.
use mathlib.Core.List.{[], ◌∷◌}
use lib.ListN.{take}
use Rattle.words.specs.Arrays.{each}
use Rattle.text.specs.Texts.{Puts}
use Rattle.text.proofs.Text.put_bytes.Given as goal

abbrev pub invariant-loop-b : goal.invariant-loop-b
invariant-loop-b l = Puts l.initial.self (each (λ b. b ∷ []) (take l.b-index l.bytes)) l.self
