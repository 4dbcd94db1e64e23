use Rattle.std.proofs.Common.{rules}
use Rattle.slots.proofs.Padded.{padded_copied}
use Rattle.slots.proofs.laid.Goals as goal

pub returns : goal.returns
returns g c = search (rules, padded_copied)
