use borrow.Author.Rules.{rules}
use Rattle.layout.proofs.Sized.{pair_sized}
use Rattle.image.proofs.Stores.{fitted, fitted_short}
use Rattle.image.proofs.fit.Goals as goal

pub returns-then-buf-lt-IMAGE_LENGTH : goal.returns-then-buf-lt-IMAGE_LENGTH
returns-then-buf-lt-IMAGE_LENGTH c = fitted_short _ _ (search rules)

pub returns : goal.returns
returns c = fitted _ _ (pair_sized _ _ c.well_formed.0) (search rules) c.put.ensures
