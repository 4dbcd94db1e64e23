use Rattle.std.proofs.Common.{◌≡◌, Bool, true, false, ◌&&◌, ltb, ap, sym, ◌∙◌, rules}
use Rattle.std.specs.Option.{is_some}
use Rattle.rules.specs.Bytes.{stepped}
use Rattle.rules.specs.PairSlots.{outcome}
use Rattle.rules.specs.declared.Outcome.{Outcome}
use Rattle.firmware.proofs.Outcomes.{room-any, room-short}
use Rattle.firmware.proofs.step_in.Goals as goal

pub returns-then-is_some-room : goal.returns-then-is_some-room
unfolding stepped
returns-then-is_some-room c = c.refused.ensures ∙ room-short _ _ _ (rw (← c.step-outcome.ensures, ← c.is_some.ensures) c.if-is_some-room.true)

pub returns : goal.returns
unfolding stepped
returns c = c.step-outcome.ensures ∙ room-any _ _ _ (rw (← c.step-outcome.ensures, ← c.is_some.ensures) c.if-is_some-room.false)
