use Rattle.std.proofs.Common.{add-one, refl, sym, ap, ◌∙◌, not}
use Rattle.std.specs.Option.{is_some}
use Rattle.rules.specs.Program.{good_up_to}
use Rattle.program.proofs.Program.{bad-up_to, bad_none}
use Rattle.program.proofs.good_up_to.Goals as goal

pub loop-k-init : goal.loop-k-init
unfolding good_up_to
loop-k-init c = refl

pub loop-k-preserved : goal.loop-k-preserved
unfolding good_up_to
loop-k-preserved c = rw (add-one, c.loop-k.invariant, bad_none, ← c.fetch.ensures) (ap (λ b. not (not b)) (c.if-is_none.ensures))

pub returns-then-is_none : goal.returns-then-is_none
returns-then-is_none c = sym (bad-up_to _ c.args.n c.loop-k.k _ c.loop-k-test.true (bad_none _ ∙ ap not (ap is_some (sym c.fetch.ensures) ∙ c.if-is_none.ensures)))
