use borrow.Author.Tests.{le-ltb, lt-ltb}
use Rattle.text.specs.Numbers.{hex_digit}
use Rattle.text.proofs.hex_digit.Goals as goal

pub returns-then-last-lt10 : goal.returns-then-last-lt10
unfolding hex_digit
returns-then-last-lt10 c = rw (lt-ltb _ 10 c.if-last-lt10.true)

pub returns-else-last-lt10 : goal.returns-else-last-lt10
unfolding hex_digit
returns-else-last-lt10 c = rw (le-ltb _ 10 c.if-last-lt10.false)
