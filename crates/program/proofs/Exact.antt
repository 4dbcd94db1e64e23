-- No second outcome meets a contract. `F.Post κs a r s` is the `ensures` of F as it stands in src/lib.rt, of the arguments a and the result r.
use mathlib.Core.Path.{◌≡◌, sym, ◌∙◌}
use Rattle.program.proofs.fetch.Reads as fetch
use Rattle.program.proofs.good_program.Reads as good-program

pub fetch_exact : (κs a r r' s s' : _) → fetch.Post κs a r s → fetch.Post κs a r' s' → r ≡ r'
fetch_exact κs a r r' s s' p q = p ∙ sym q

pub good_program_exact : (κs a r r' s s' : _) → good-program.Post κs a r s → good-program.Post κs a r' s' → r ≡ r'
good_program_exact κs a r r' s s' p q = p ∙ sym q
