-- What saving, loading and retiring answer, each number in its situation and in no other.
use mathlib.Core.{Bool.{Bool, false, not, true}, List.List, Path.{◌≡◌, ap, refl}}
use Prim.Native.Nat.{ℕ}
use native.Mathlib.Omega.{arith}
use borrow.Author.Tests.{eq-eqb, eqb-false, eqb-true, ne_eqb, not-false, not-true}
use lib.Dec.{eqb}
use lib.ListN.{length}
use Rattle.forms.proofs.Refusing.{Chain, chain, fitting}
use Rattle.forms.specs.Lent.{refusing}
use Rattle.layout.specs.Image.{image_at, image_length, sound_image}
use Rattle.rules.specs.Events.{number, refuse, taken}
use Rattle.rules.specs.PairSlots.{outcome, sound_pair, zero_pair}
use Rattle.rules.specs.Program.{Setup, good}
use Rattle.rules.specs.declared.Pair.{Pair}
use Rattle.rules.specs.declared.Refusal.TheVariants.{BadFile, BadProgram, Unsound}
use Rattle.image.specs.{Refusals.{LoadRefusals, RetireRefusals, SaveRefusals}, Stores.{loaded, retire_answer, room, save_answer}}
use Rattle.std.specs.Prelude.{None, Ok}

pub save-refusals : (s : Pair) (buf : List ℕ) → SaveRefusals s buf
unfolding save_answer room number
save-refusals s buf =
    let f = fitting (sound_pair s) (length buf) image_length Unsound (λ q. omega arith) in
    record { unsound = f.refused; too_short = f.too_short; taken = f.taken }

pub retire-refusals : (S : Setup) (n : ℕ) → RetireRefusals S n
unfolding retire_answer room number
retire-refusals S n =
    let f = fitting (good S) n image_length BadProgram (λ q. omega arith) in
    record { bad_program = f.refused; too_short = f.too_short; taken = f.taken }

-- loading answers what a chain of the same tests does
loaded-answer : (b : List ℕ) → (loaded b).answer ≡ refusing (not (eqb (length b) image_length)) BadFile (refusing (not (sound_image b)) Unsound (Ok tt))
unfolding loaded outcome refuse refusing
loaded-answer b = go (not (eqb (length b) image_length)) (not (sound_image b))
  where
    go : (x y : Bool) → (outcome zero_pair (refuse x BadFile (refuse y Unsound (taken (image_at b) None)))).answer ≡ refusing x BadFile (refusing y Unsound (Ok tt))
    go true y = refl
    go false true = refl
    go false false = refl

pub load-refusals : (b : List ℕ) → LoadRefusals b
unfolding number
load-refusals b =
    let c : Chain (not (eqb (length b) image_length)) (not (sound_image b)) BadFile Unsound (loaded b).answer = rw (loaded-answer b) (chain _ _ BadFile Unsound (λ q. omega arith)) in
    let n = length b in
    record {
      bad_file = (λ q. eqb-false n image_length (not-true _ (c.first.0 q)), λ q. c.first.1 (ap not (ne_eqb n image_length q)));
      unsound = (λ q. let r = c.second.0 q in (eqb-true n image_length (not-false _ r.0), not-true _ r.1), λ r. c.second.1 (ap not (eq-eqb n image_length r.0), ap not r.1));
      taken = (λ q. let r = c.zero.0 q in (eqb-true n image_length (not-false _ r.0), not-false _ r.1), λ r. c.zero.1 (ap not (eq-eqb n image_length r.0), ap not r.1));
    }
