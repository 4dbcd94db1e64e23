use Rattle.std.proofs.Common.{rules, ◌≡◌, ◌∙◌, sym, refl, ap, ◌-◌, ◌+◌, true, false}
use native.Mathlib.Nat.{sub-zero}
use Rattle.reader.specs.declared.Reader.{Reader}
use Rattle.walker.specs.declared.Stretch.{Stretch}
use Rattle.walker.specs.Stretches.{quiet}
use Rattle.walker.proofs.Stretches.{ends, none_left, turned}
use Rattle.walker.proofs.walk.Goals as goal

pub loop-init : goal.loop-init
unfolding quiet
loop-init c = (rw c.open-reader.ensures refl, rw c.none_yet-last.ensures refl, rw (sub-zero, c.open-reader.ensures, c.none_yet-last.ensures) refl)

pub loop-preserved : goal.loop-preserved
loop-preserved c =
    let l = c.loop in
    let z : Stretch = record { at = l.reader.at; pair = l.resident; last = l.last } in
    let k = l.invariant.0 in
    let q : quiet c.apply-last.result.answer c.apply-last.result.shown ≡ true = search rules in (
      rw c.next-event.ensures.1 k,
      q,
      l.invariant.2 ∙ turned c.args.file.now c.args.program.now z c.args.events l.counter _ _ _ _ _ l.invariant.1 c.loop-test.true
          (rw k at c.next-event.ensures.0) (rw k at (ap (λ (r : Reader). r.at) c.next-event.ensures.1)) c.apply-last.ensures.answer c.apply-last.ensures.shown c.apply-last.ensures.pair,
    )

pub returns-after-loop : goal.returns-after-loop
returns-after-loop c =
    let l = c.loop in
    let z : Stretch = record { at = l.reader.at; pair = l.resident; last = l.last } in
    sym (l.invariant.2 ∙ none_left c.args.file.now c.args.program.now z c.args.events l.counter c.loop-test.false)

pub returns-then-not-is_quiet : goal.returns-then-not-is_quiet
returns-then-not-is_quiet c =
    let l = c.loop in
    let z : Stretch = record { at = l.reader.at; pair = l.resident; last = l.last } in
    let k = l.invariant.0 in
    let last : Stretch = record { at = c.next-event.new.reader.at; pair = c.apply-last.new.pair; last = c.apply-last.result } in
    let q : quiet c.apply-last.result.answer c.apply-last.result.shown ≡ false = search rules in
    sym (l.invariant.2 ∙ turned c.args.file.now c.args.program.now z c.args.events l.counter _ _ _ _ _ l.invariant.1 c.loop-test.true
    (rw k at c.next-event.ensures.0) (rw k at (ap (λ (r : Reader). r.at) c.next-event.ensures.1)) c.apply-last.ensures.answer c.apply-last.ensures.shown c.apply-last.ensures.pair
    ∙ ends c.args.file.now c.args.program.now last (c.args.events - (l.counter + 1)) q)
