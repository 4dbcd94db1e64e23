-- B's boundaries on the guest's arrays, for any arrays whatever: what the code does. On a guest whose free slots are zero each is the
-- rule of its name, laid out (proofs/Laid.antt).
use Rattle.std.specs.Prelude.{List, ℕ, eqb}
use Rattle.boundary.specs.InSlots.{boundary_in, close_in, deliver_in, delivers_in, tell_uncertain_in}
use Rattle.rules.specs.Messages.{first, interrupt_of, ints, of_kind, tmes}
use Rattle.rules.specs.declared.EpochNo.{EpochNo}
use Rattle.rules.specs.declared.Guest.{Guest}
use Rattle.rules.specs.declared.Message.{Message}
use Rattle.slots.specs.Slots.{pick}

-- an Int of epoch e is delivered, any other message passed by
unfoldable pub hear_in : EpochNo → Guest → Message → Guest
hear_in e g m = pick (of_kind 2 e m) (deliver_in g (interrupt_of m)) g

-- the boundary of e as P told it; none at epoch 0
unfoldable pub turned_in : EpochNo → Guest → List Message → ℕ → Guest
turned_in e g ms w = pick (eqb e.0 0) g (boundary_in (ints e ms) (first (tmes e ms) w) g)

-- the failover boundary, with P8
unfoldable pub turned_last_in : EpochNo → Guest → List Message → ℕ → Guest
turned_last_in e g ms w = close_in (first (tmes e ms) w) (tell_uncertain_in (delivers_in g (ints e ms)))
