-- A function over lent bytes: what it answers, and what it leaves there.
use Rattle.std.specs.Prelude.{Bool, true, false}
use Rattle.rules.specs.declared.Refusal.{Refusal}
use Rattle.rules.specs.Answer.{Answer}
use Rattle.std.specs.Prelude.{Ok, Err}

-- refused for this reason where the test holds; a chain of these is 01's order of refusals
unfoldable pub refusing : Bool → Refusal → Answer → Answer
refusing true why a = Err why
refusing false why a = a

-- the first where the answer is 0, the second where it is a refusal
unfoldable pub where_taken : {A : Type 0} → Answer → A → A → A
where_taken (Ok tt) x y = x
where_taken (Err why) x y = y
