-- Which bytes of an image are tested: every number may stand where it stands, so only the form, the flags, the phases and the zero fields are left.
use mathlib.Core.Path.{◌≡◌, refl}
use mathlib.Core.Bool.{Bool, true, false, ◌&&◌}
use mathlib.Core.List.{List}
use Prim.Native.Nat.{ℕ, zero, suc, ◌+◌}
use lib.Dec.{eqb, leb, ltb}
use Rattle.words.specs.Numbers.{at8, at16}
use Rattle.forms.specs.Stored.{array, all}
use Rattle.layout.specs.Fields.{interrupt, message, guest}
use Rattle.layout.specs.Image.{image_form, header}

and_yes : (b : Bool) → b && true ≡ b
and_yes true = refl
and_yes false = refl

all_yes : (n : ℕ) → all (λ j. true) n ≡ true
unfolding all
all_yes zero = refl
all_yes (suc n) = rw (all_yes n)

pub interrupt-fine : (s : List ℕ) (i : ℕ) → interrupt.fine s i ≡ eqb (at8 s (i + 1)) 0
interrupt-fine s i = simp and_yes

pub message-fine : (s : List ℕ) (i : ℕ) → message.fine s i ≡ eqb (at16 s (i + 6)) 0
message-fine s i = simp and_yes

pub guest-fine : (s : List ℕ) (i : ℕ) → guest.fine s i ≡ ltb (at8 s (i + 5)) 2 && (array 17 interrupt).fine s (i + 332)
guest-fine s i = simp (and_yes, all_yes)

pub header-fine : (s : List ℕ) → header.fine s 0 ≡ eqb (at8 s 0) image_form && (leb 1 (at8 s 2) && leb (at8 s 2) 3) && ltb (at8 s 3) 2 && eqb (at16 s 14) 0
header-fine s = simp and_yes
