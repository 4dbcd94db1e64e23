use Rattle.text.proofs.Texts.{◌then◌, still}
use Rattle.requests.proofs.Lines.{loads, loads_not}
use Rattle.requests.proofs.kinds.load.Goals as goal
use Rattle.requests.proofs.kinds.load.Goals.{in-Ok, in_default}

pub returns : goal.returns
returns c =
    elim c.match-loaded.branch [
      | in-Ok w ↦ rw (loads _ c.load-loaded.ensures w.in-Ok.is) (c.put_front.ensures then w.put_saved.ensures then (rw w.text-is at c.put_line_end.ensures))
      | in_default w ↦ rw (loads_not _ c.load-loaded.ensures w.in_default.is) (c.put_front.ensures then still then (rw w.text-is at c.put_line_end.ensures))
    ]
