-- The digits of those before the next have been put.
use lib.ListN.{take}
use Rattle.words.specs.Arrays.{each}
use Rattle.text.specs.Numbers.{hex_byte}
use Rattle.text.specs.Texts.{Puts}
use Rattle.text.proofs.Text.put_hex.Given as goal

abbrev pub invariant-loop-byte : goal.invariant-loop-byte
invariant-loop-byte l = Puts l.initial.self (each hex_byte (take l.byte-index l.bytes)) l.self
