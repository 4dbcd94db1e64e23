use mathlib.Core.Path.{ap, sym, ◌∙◌}
use Rattle.rules.specs.PairSlots.{outcome}
use Rattle.firmware.proofs.Outcomes.{front-fine, front-form, front_length, front_passed}
use Rattle.firmware.proofs.apply.Goals as goal

pub returns-then-ill_formed : goal.returns-then-ill_formed
returns-then-ill_formed c = rw (c.refused.ensures, c.get-pair.ensures) (ap (outcome _) (front-form _ _ _ _ (sym c.ill_formed.ensures ∙ c.if-ill_formed.true)))

pub returns-then-store-ne-IMAGE_LENGTH : goal.returns-then-store-ne-IMAGE_LENGTH
returns-then-store-ne-IMAGE_LENGTH c = rw (c.refused-then-store-ne-IMAGE_LENGTH.ensures, c.get-pair.ensures) (ap (outcome _) (front_length _ _ _ _ (sym c.ill_formed.ensures ∙ c.if-ill_formed.false) c.if-store-ne-IMAGE_LENGTH.true))

pub returns-then-not-fine : goal.returns-then-not-fine
returns-then-not-fine c = rw (c.refused-then-not-fine.ensures, c.get-pair.ensures) (ap (outcome _) (front-fine _ _ _ _ (sym c.ill_formed.ensures ∙ c.if-ill_formed.false) c.if-store-ne-IMAGE_LENGTH.false (sym c.fine.ensures ∙ c.if-not-fine.true)))

pub returns : goal.returns
returns c = rw (c.step_in.ensures, c.get-pair.ensures) (ap (outcome _) (front_passed _ _ _ _ (sym c.ill_formed.ensures ∙ c.if-ill_formed.false) c.if-store-ne-IMAGE_LENGTH.false (sym c.fine.ensures ∙ c.if-not-fine.false)))
