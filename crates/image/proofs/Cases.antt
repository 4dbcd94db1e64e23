-- The two starred cases of 01 on retiring, by computation.
use mathlib.Core.Bool.{true}
use mathlib.Core.List.{append-nil}
use mathlib.Core.Path.{◌≡◌, refl, ap, ◌∙◌}
use Rattle.forms.specs.Lent.{refusing, where_taken}
use Rattle.layout.proofs.Cases.{fresh_bytes_lem}
use Rattle.layout.specs.{Cases.fresh, Image.image_bytes}
use Rattle.cases.specs.Example.{example}
use Rattle.rules.specs.Events.{number}
use Rattle.rules.specs.Pair.{fresh_pair}
use Rattle.rules.specs.PairSlots.{answer_number, laid}
use Rattle.rules.specs.Decode.{allow, decode, fetch, is_bad}
use Rattle.rules.specs.Program.{good, good_program, good_up_to, under}
use Rattle.image.specs.Cases.{Retiring, example_setup}
use Rattle.image.specs.Stores.{retire_answer, retire_leaves, room, zeros}
use Rattle.image.proofs.Promises.{made_pair}

example-good : good example_setup ≡ true
unfolding good under good_program good_up_to example is_bad fetch decode allow
example-good = refl

-- its fresh pair is that of any program of 5 instructions
same-fresh : laid (fresh_pair example_setup) ≡ fresh
unfolding fresh_pair under example
same-fresh = refl

pub retiring : Retiring
unfolding retire_answer retire_leaves refusing where_taken room answer_number number zeros
retiring = record {
  short_answer = rw example-good;
  short_leaves = rw example-good;
  exact_answer = rw example-good;
  exact_leaves = rw example-good (append-nil _ ∙ ap image_bytes (made_pair example_setup example-good ∙ same-fresh) ∙ fresh_bytes_lem);
}
