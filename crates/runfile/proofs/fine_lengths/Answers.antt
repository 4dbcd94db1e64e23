use Rattle.runfile.specs.RunFile.{fine_lengths}
use Rattle.runfile.proofs.fine_lengths.Goals as goal

pub returns : goal.returns
unfolding fine_lengths
returns c = rw (c.fine_program.ensures, c.fine_events.ensures)
