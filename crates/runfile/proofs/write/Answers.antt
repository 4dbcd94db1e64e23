-- Three ways out, in the order of 01.
use mathlib.Core.Path.{◌≡◌, refl, sym, ◌∙◌}
use mathlib.Core.Bool.{true}
use native.Mathlib.Nat.{zero-add}
use native.Mathlib.Omega.{arith}
use lib.ListN.{length}
use Rattle.words.proofs.Wrote.{placed}
use Rattle.forms.proofs.Stretch.{◌next◌, stretch}
use Rattle.runfile.specs.RunFile.{fine_lengths, run_bytes}
use Rattle.runfile.proofs.Header.{lengths}
use Rattle.runfile.proofs.Writing.{bad-length, too_short, room, refuses, takes}
use Rattle.runfile.proofs.write.Goals as goal

pub returns-then-not-fine_lengths : goal.returns-then-not-fine_lengths
returns-then-not-fine_lengths c = refuses (bad-length _ _ _ (sym c.fine_lengths.ensures ∙ c.if-not-fine_lengths.true))

pub overflow_add-next-2 : goal.overflow_add-next-2
overflow_add-next-2 c = let n = lengths _ _ (sym c.fine_lengths.ensures ∙ c.if-not-fine_lengths.false) in omega arith

pub returns-then-buf-next : goal.returns-then-buf-next
returns-then-buf-next c = refuses (too_short _ _ _ (sym c.fine_lengths.ensures ∙ c.if-not-fine_lengths.false) c.if-buf-next.true)

pub put_header-requires : goal.put_header-requires
put_header-requires c = let n = lengths _ _ (sym c.fine_lengths.ensures ∙ c.if-not-fine_lengths.false) in (n.program_small, n.events_small)

pub returns : goal.returns
unfolding run_bytes
returns c =
    let fine : fine_lengths (length c.args.program.now) (length c.args.events.now) ≡ true = sym c.fine_lengths.ensures ∙ c.if-not-fine_lengths.false in
    let behind = placed c.put_body-2.ensures (sym (zero-add _)) in
    takes (room _ _ _ fine c.if-buf-next.false) c.if-buf-next.false
    (stretch c.put_header.ensures refl next stretch c.put_body.ensures refl next stretch behind refl).wrote
