use Rattle.std.proofs.Common.{◌≡◌, ℕ, ◌+◌, ◌-◌, ◌≤◌, List, ◌++◌, Result, Ok, Err, OnErr, rules, length, take, sym, ap, ap₂, ◌∙◌, subst, drop_at, le_refl, length-take-le, take_at, take-add}
use lib.Seq.{take-append-le}
use borrow.Rule.Slice.PartMut.{put_mid, post_of}
use Rattle.std.specs.Io.KnownBytes.{Consumes}
use Rattle.std.proofs.KnownBytes.{Consumes-trans, Consumes-kept}
use Rattle.std.proofs.lemmas.Slice.{take-put_mid_below}
use Rattle.incoming.proofs.read_full.Goals as goal

-- what was read behind the front that is filled stands there
filled : (a k n : ℕ) (xs ys : List ℕ) → a ≤ length xs → n ≤ length ys → take a xs ++ take n ys ≡ take (a + n) (put_mid a k xs ys)
filled a k n xs ys within fits =
    let front = length-take-le a xs within in
    let rest = ys ++ post_of a k xs in
    sym (take-add a n (put_mid a k xs ys) ∙ ap₂ (λ u v. u ++ v) (take_at (take a xs) rest a front) (ap (take n) (drop_at (take a xs) rest a front) ∙ take-append-le n ys _ fits))

on_err : {T E P : Type 0} (r : Result T E) → P → OnErr r P
on_err (Ok x) p = tt
on_err (Err e) p = p

pub loop-done-preserved : goal.loop-done-preserved
loop-done-preserved g c =
    let read = c.in_ok-n.ensures in
    let more = Consumes-trans _ _ _ _ _ c.loop-done.invariant.2 read.bytes.0 in
    (search rules, search rules, subst (Consumes _ _) (filled c.loop-done.done (length c.loop-done.buf - c.loop-done.done) c.in_ok-n.n c.loop-done.buf c.read.new.buf c.loop-done.invariant.1 read.bound.0) more)

pub returns-in_err-n-clause-failed : goal.returns-in_err-n-clause-failed
returns-in_err-n-clause-failed g c =
    let before = c.loop-done.invariant in
    on_err c.from_residual.result
    (c.loop-done.done, subst (Consumes _ _) (sym (take-put_mid_below _ _ _ _ _ (le_refl _) before.1)) (Consumes-kept _ _ _ _ before.2 c.in_err-n.ensures.bytes))
