-- What reading and writing a run file answer, each number in its situation and in no other.
use mathlib.Core.{Bool.{false, not}, List.List, Path.{ap, refl}}
use Prim.Native.Nat.{ℕ}
use native.Mathlib.Omega.{arith}
use borrow.Author.Tests.{not-false, not-true}
use lib.ListN.{length}
use Rattle.forms.proofs.Refusing.{Chain, chain, fitting}
use Rattle.forms.specs.Lent.{refusing}
use Rattle.rules.specs.{Events.number, declared.Refusal.TheVariants.{BadFile, TooShort}}
use Rattle.runfile.specs.{Refusals.{ReadRefusals, WriteRefusals}, RunFile.{fine_lengths, is_run_file, read_answer, run_length, write_answer}}

pub read-refusals : (s : List ℕ) → ReadRefusals s
unfolding read_answer refusing number
read-refusals s =
    let c : Chain (not (is_run_file s)) false BadFile TooShort (read_answer s) = chain (not (is_run_file s)) false BadFile TooShort (λ q. omega arith) in
    record {
      bad_file = (λ q. not-true _ (c.first.0 q), λ q. c.first.1 (ap not q));
      taken = (λ q. not-false _ (c.zero.0 q).0, λ q. c.zero.1 (ap not q, refl));
    }

pub write-refusals : (program events b : List ℕ) → WriteRefusals program events b
unfolding write_answer number
write-refusals program events b =
    let f = fitting (fine_lengths (length program) (length events)) (length b) (run_length program events) BadFile (λ q. omega arith) in
    record { bad_file = f.refused; too_short = f.too_short; taken = f.taken }
