-- Delivering the Ints of an epoch, as a loop does that passes the other messages by.
use mathlib.Core.Bool.{Bool, false, true}
use mathlib.Core.List.{List, [], ◌∷◌}
use mathlib.Core.Path.{◌≡◌, refl}
use Rattle.boundary.specs.InSlots.{deliver_in, delivers_in}
use Rattle.rules.specs.Messages.{gather, int_of, interrupt_of, ints, of_kind, only, place}
use Rattle.rules.specs.declared.EpochNo.{EpochNo}
use Rattle.rules.specs.declared.Guest.{Guest}
use Rattle.rules.specs.declared.Message.{Message}
use Rattle.slots.specs.Slots.{folded, pick}
use Rattle.turn.specs.InSlots.{hear_in}

pub heard-ints : (e : EpochNo) (g : Guest) (ms : List Message) → folded (hear_in e) g ms ≡ delivers_in g (ints e ms)
unfolding folded ints gather int_of hear_in
heard-ints e g [] = refl
heard-ints e g (m ∷ ms) = go (of_kind 2 e m) (heard-ints e (deliver_in g (interrupt_of m)) ms) (heard-ints e g ms)
  where
    go : (b : Bool) → folded (hear_in e) (deliver_in g (interrupt_of m)) ms ≡ delivers_in (deliver_in g (interrupt_of m)) (ints e ms) → folded (hear_in e) g ms ≡ delivers_in g (ints e ms)
        → folded (hear_in e) (pick b (deliver_in g (interrupt_of m)) g) ms ≡ delivers_in g (place (only b (interrupt_of m)) (ints e ms))
    go true u v = unfold place only in u
    go false u v = unfold place only in v
