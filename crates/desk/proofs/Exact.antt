-- No second outcome meets a contract. `F.Post κs a r s` is the `ensures` of F as it stands in src/bench.rt, of the lifetimes κs, the
-- arguments a, the result r and what the references hold at the end, s.
use mathlib.Core.Path.{◌≡◌}
use Rattle.text.proofs.Exact.{Alike}
use Rattle.text.proofs.Spelled.{spelled-once}
use Rattle.text.proofs.Texts.{puts-once}
use Rattle.desk.proofs.bench.run.Reads as run
use Rattle.desk.proofs.bench.run_by.Reads as run-by
use Rattle.desk.proofs.bench.show.Reads as show
use Rattle.desk.proofs.bench.stop.Reads as stop

pub run_exact : (κs a r r' s s' : _) → run.Post κs a r s → run.Post κs a r' s' → (r ≡ r') × (s.1.0.now ≡ s'.1.0.now)
run_exact κs a r r' s s' p q = spelled-once p.spelled q.spelled

-- of what a bound brings besides: b, for its type, its dictionaries and the clauses of its calls
pub run_by_exact : (b b₁ b₂ b₃ b₄ b₅ b₆ κs a r r' s s' : _) → run-by.Post b b₁ b₂ b₃ b₄ b₅ b₆ κs a r s → run-by.Post b b₁ b₂ b₃ b₄ b₅ b₆ κs a r' s'
    → (r ≡ r') × (s.1.0.now ≡ s'.1.0.now)
run_by_exact b b₁ b₂ b₃ b₄ b₅ b₆ κs a r r' s s' p q = spelled-once p.spelled q.spelled

pub show_exact : (κs a r r' s s' : _) → show.Post κs a r s → show.Post κs a r' s' → Alike s.0.now s'.0.now
show_exact κs a r r' s s' p q = puts-once p.0 q.0

pub stop_exact : (κs a r r' s s' : _) → stop.Post κs a r s → stop.Post κs a r' s' → Alike s.0.now s'.0.now
stop_exact κs a r r' s s' p q = puts-once p q
