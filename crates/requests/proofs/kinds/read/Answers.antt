use Rattle.text.proofs.Texts.{◌then◌, still}
use Rattle.requests.proofs.Lines.{reads, reads_not}
use Rattle.requests.proofs.kinds.read.Goals as goal
use Rattle.requests.proofs.kinds.read.Goals.{in-Ok, in_default}

pub returns : goal.returns
returns c =
    elim c.match-answer.branch [
      | in-Ok w ↦ rw (reads _ c.check-answer.ensures w.in-Ok.is) (c.put_front.ensures then w.put_parts.ensures then (rw w.text-is at c.put_line_end.ensures))
      | in_default w ↦ rw (reads_not _ c.check-answer.ensures w.in_default.is) (c.put_front.ensures then still then (rw w.text-is at c.put_line_end.ensures))
    ]
