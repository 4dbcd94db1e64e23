-- START leaves the count of instructions as it was.
use Rattle.std.proofs.Common.{◌≡◌, ℕ, suc, Bool, true, false, refl, add-one}
use Rattle.rules.specs.Guest.{with_reg}
use Rattle.rules.specs.GuestSlots.{seen_guest, used_op}
use Rattle.rules.specs.Instruction.{cannot_start, moved, next_op, quiet, starts}
use Rattle.rules.specs.declared.Guest.{Guest}
use Rattle.slots.specs.Slots.{pick, pushed}
use Rattle.guest.specs.InSlots.{in_place, in_table, perform_in, start_in}
use Rattle.guest.proofs.perform.Goals as goal

start-moves : (g : Guest) (x y z n : ℕ) → in_place (start_in g x y z) n (suc g.done) ≡ moved n (start_in g x y z)
unfolding start_in starts moved
start-moves g x y z n = go (cannot_start (seen_guest g))
  where
    go : (b : Bool) → in_place (pick b (quiet (with_reg g z 0)) (in_table (pushed used_op g.table (next_op g)) (starts g x y z))) n (suc g.done)
        ≡ moved n (pick b (quiet (with_reg g z 0)) (in_table (pushed used_op g.table (next_op g)) (starts g x y z)))
    go true = refl
    go false = refl

pub returns-in-Start : goal.returns-in-Start
unfolding perform_in
returns-in-Start c = rw (c.moved.ensures, c.start.ensures, c.in-Start.is, add-one) (start-moves c.args.g _ _ _ _)
