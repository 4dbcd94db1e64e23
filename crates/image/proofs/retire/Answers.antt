use Rattle.std.proofs.Common.{◌≡◌, Ok, Err, ◌∙◌, ap, sym, rules}
use Rattle.rules.specs.declared.Outcome.{Outcome}
use Rattle.rules.specs.Answer.{Answer}
use Rattle.image.proofs.Stores.{retired_bad, retired_fitted}
use Rattle.image.proofs.retire.Goals as goal

pub returns-in_err-made : goal.returns-in_err-made
returns-in_err-made c =
    let why = c.in_err-made.field-0.0 in
    let refused : ◌≡◌ {A = Answer} c.from_residual.result (Err why) = search rules in
    rw refused (retired_bad _ _ _ c.wipe.ensures (ap (λ (o : Outcome). o.answer) (sym c.set_up-made.ensures) ∙ c.in_err-made.was))

pub returns : goal.returns
returns c = retired_fitted _ _ _ c.wipe.ensures (ap (λ (o : Outcome). o.answer) (sym c.set_up-made.ensures) ∙ c.in_ok-made.was) (rw c.set_up-made.ensures at c.fit.ensures)
