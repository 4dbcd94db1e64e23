-- One instruction on the slots of a guest that fits them is the instruction, laid out.
use Rattle.std.proofs.Common.{◌≡◌, ℕ, Bool, true, false, List, refl, ap, ◌∙◌}
use Rattle.rules.proofs.GuestSlots.{FitsGuest, queue-room, room-start, seen-laid}
use Rattle.rules.specs.Guest.{onward, with_queue, with_reg}
use Rattle.rules.specs.GuestSlots.{laid_guest, laid_ran, seen_guest, used_interrupt, used_op, zero_interrupt, zero_op}
use Rattle.rules.specs.Instruction.{cannot_start, complete, moved, next, next_op, perform, quiet, start, starts, take}
use Rattle.rules.specs.declared.Guest.{Guest}
use Rattle.rules.specs.declared.Instr.{Instr}
use Rattle.rules.specs.declared.Instr.TheVariants.{Add, Div, Jz, Load, Nop, SetTo, Start, Store, Sub, Take, Time, Timer}
use Rattle.rules.specs.declared.Interrupt.{Interrupt}
use Rattle.rules.specs.declared.OpNo.{OpNo}
use Rattle.slots.proofs.Padded.{entries-padded, pushed-padded}
use Rattle.slots.specs.Slots.{entries, padded, pick, pushed}
use Rattle.guest.specs.InSlots.{in_table, instruction_in, laid_queue, perform_in, start_in, take_in}

-- the queue that is laid out is seen again
queue-again : (g : Guest) → FitsGuest g → entries used_interrupt (padded 17 zero_interrupt g.queue) ≡ g.queue
queue-again g f = entries-padded used_interrupt zero_interrupt refl 17 g.queue f.queue (queue-room g f)

laid-take : (g : Guest) → FitsGuest g → (x y z : ℕ) → take_in (laid_guest g) x y z ≡ laid_guest (take g x y z)
unfolding take_in take laid_guest
laid-take g f x y z = ap (λ (q : List Interrupt). laid_queue (take (with_queue (laid_guest g) q) x y z)) (queue-again g f)

laid-start : (g : Guest) → FitsGuest g → (x y z : ℕ) → start_in (laid_guest g) x y z ≡ laid_ran (start g x y z)
unfolding start_in start starts laid_ran laid_guest
laid-start g f x y z =
    ap (λ (h : Guest). pick (cannot_start h) (quiet (with_reg (laid_guest g) z 0)) (in_table (pushed used_op (padded 16 zero_op g.table) (next_op g)) (starts (laid_guest g) x y z))) (seen-laid g f)
    ∙ go (cannot_start g) refl
  where
    go : (b : Bool) → cannot_start g ≡ b
        → pick b (quiet (with_reg (laid_guest g) z 0)) (in_table (pushed used_op (padded 16 zero_op g.table) (next_op g)) (starts (laid_guest g) x y z)) ≡ laid_ran (pick b (quiet (with_reg g z 0)) (starts g x y z))
    go true e = refl
    go false e = ap (λ (t : List OpNo). in_table t (starts (laid_guest g) x y z)) (pushed-padded used_op zero_op refl 16 g.table (next_op g) f.table (room-start g f e))

pub laid-perform : (i : Instr) (g : Guest) → FitsGuest g → (n c : ℕ) → perform_in i (laid_guest g) n c ≡ laid_ran (perform i g n c)
unfolding perform_in perform moved laid_ran laid_guest
laid-perform Nop g f n c = refl
laid-perform (SetTo x k) g f n c = refl
laid-perform (Add x y z) g f n c = refl
laid-perform (Sub x y z) g f n c = refl
laid-perform (Div x y z) g f n c = refl
laid-perform (Load x y) g f n c = refl
laid-perform (Store x y) g f n c = refl
laid-perform (Jz x t) g f n c = refl
laid-perform (Take x y z) g f n c = ap (λ (h : Guest). quiet (onward h n)) (laid-take g f x y z)
laid-perform (Time x) g f n c = refl
laid-perform (Start x y z) g f n c = ap (moved n) (laid-start g f x y z)
laid-perform (Timer x) g f n c = refl

-- one instruction of an epoch that is not complete, on a guest that is what it holds, laid out
pub laid-instruction : (i : Instr) (g : Guest) (n l c : ℕ) → g ≡ laid_guest (seen_guest g) → FitsGuest (seen_guest g) → complete l g ≡ false → instruction_in i g n l c ≡ laid_ran (perform i (seen_guest g) (next n g) c)
unfolding instruction_in
laid-instruction i g n l c again f e = rw e (ap (λ (h : Guest). perform_in i h (next n g) c) again ∙ laid-perform i (seen_guest g) f (next n g) c)
