use Rattle.text.specs.Numbers.{hex_byte}
use native.Mathlib.Omega.{arith}
use Rattle.std.proofs.lemmas.Grind.{common_steps}
use Rattle.text.proofs.Text.put_hex_byte.Goals as goal

pub returns : goal.returns
unfolding hex_byte
returns c = grind (arith, common_steps)
