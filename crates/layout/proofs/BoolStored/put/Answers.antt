use mathlib.Core.Bool.{Bool, false, true}
use mathlib.Core.Path.{◌≡◌, refl}
use mir.Val.{bool_byte}
use Rattle.forms.specs.Stored.{flag_number}
use Rattle.layout.proofs.BoolStored.put.Goals as goal

-- a flag has the number that the library makes of it
same : (b : Bool) → bool_byte b ≡ flag_number b
unfolding flag_number
same true = refl
same false = refl

pub returns : goal.returns
returns c = rw (c.from.ensures, same) at c.put8.ensures
