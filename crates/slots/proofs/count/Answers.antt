use Rattle.std.proofs.Common.{ap, sym, ◌∙◌, length}
use Rattle.slots.proofs.Entries.{entries_taken, length-entries}
use Rattle.slots.proofs.count.Goals as goal

pub returns-clause-is : goal.returns-clause-is
returns-clause-is g c = c.front.ensures ∙ ap length (sym (entries_taken g.T.Slot.used c.args.slots.now))

pub returns-clause-most : goal.returns-clause-most
returns-clause-most g c = rw (c.front.ensures, sym (entries_taken g.T.Slot.used c.args.slots.now)) (length-entries g.T.Slot.used c.args.slots.now)
