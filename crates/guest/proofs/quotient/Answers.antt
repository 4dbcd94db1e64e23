use Rattle.std.proofs.Common.{◌≡◌, ℕ, zero, suc, ◌/◌, sym, refl}
use Rattle.rules.specs.Instruction.{quotient}
use Rattle.guest.proofs.quotient.Goals as goal

divided : (a b : ℕ) → (b ≡ 0 → ⊥) → quotient a b ≡ a / b
unfolding quotient
divided a zero h = absurd (h refl)
divided a (suc b) h = refl

pub returns-then-b-eq0 : goal.returns-then-b-eq0
unfolding quotient
returns-then-b-eq0 c = rw c.if-b-eq0.true

pub returns-else-b-eq0 : goal.returns-else-b-eq0
unfolding quotient
returns-else-b-eq0 c = sym (divided c.args.a c.args.b c.if-b-eq0.false)
