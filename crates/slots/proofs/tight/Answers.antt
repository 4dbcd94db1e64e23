use Rattle.std.proofs.Common.{◌≡◌, ◌&&◌, drop, ap, ap₂, sym, refl, ◌∙◌}
use Rattle.slots.specs.Slots.{tight, every}
use Rattle.slots.proofs.Looking.{every_all}
use Rattle.slots.proofs.Padded.{tight-laid}
use Rattle.slots.proofs.Tests.{and_true}
use Rattle.slots.proofs.tight.Goals as goal

-- what stands behind the used slots
behind : (g : _) (c : goal.After-every g) → c.zeros.result ≡ tight g.T.Slot.used g.T.Slot.is_zero c.args.slots.now
behind g c =
    let xs = c.args.slots.now in
    rw c.split_at.ensures.back at c.zeros.ensures ∙ every_all g.T.Slot.is_zero _ ∙ ap (λ n. every g.T.Slot.is_zero (drop n xs)) c.count.ensures.is

pub returns-clause-is : goal.returns-clause-is
returns-clause-is g c p e = ap₂ ◌&&◌ (behind g c) (c.every.ensures p e)

pub returns-clause-laid : goal.returns-clause-laid
returns-clause-laid g c h =
    let xs = c.args.slots.now in
    tight-laid g.T.Slot.used g.T.Slot.is_zero g.T.Slot.zero g.met.T.Slot.zero_is _ xs refl (sym (behind g c) ∙ (and_true _ _ h).0)
