-- The number falls to its tenth: its digits are those of its tenth, and then its last.
use Rattle.text.proofs.Numbers.{one_digit, more_digits}
use Rattle.text.proofs.Texts.{◌then◌}
use Rattle.text.proofs.Text.+put_number.Goals as goal
use Rattle.text.proofs.Text.+put_number.Goals.{then-n-ge10, else-n-ge10}

pub returns : goal.returns
returns t c =
    elim c.if-n-ge10.branch [
      | then-n-ge10 w ↦ rw (more_digits _ w.if-n-ge10.true) (w.put_number.ensures then (rw w.self-is at c.put_byte.ensures))
      | else-n-ge10 w ↦ rw (one_digit _ w.if-n-ge10.false) (rw w.self-is at c.put_byte.ensures)
    ]
