-- The boundary on the slots of a guest that fits them is the boundary, laid out.
use mathlib.Core.Bool.{Bool, ◌&&◌, false, true}
use mathlib.Core.List.{List, [], ◌∷◌, map}
use mathlib.Core.Path.{◌∙◌, ◌≡◌, ap, refl}
use Prim.Native.Nat.{ℕ}
use borrow.Author.Tests.{eqb-true}
use lib.Dec.{eqb, leb}
use Rattle.rules.proofs.GuestSlots.{FitsGuest, fits-deliver, fits-delivers, room-delivery, room-timer, seen-laid, table-room}
use Rattle.rules.proofs.Lists.{every-all, none-count}
use Rattle.rules.specs.Boundary.{boundary, deliver, delivers, due, other_op, restart, rings, tell_uncertain, timer, timer_interrupt, told, uncertain}
use Rattle.rules.specs.Guest.{listed, with_queue, with_table, with_timer}
use Rattle.rules.specs.GuestSlots.{laid_guest, used_interrupt, used_op, zero_interrupt, zero_op}
use Rattle.rules.specs.Instruction.{is_timer}
use Rattle.rules.specs.declared.Guest.{Guest}
use Rattle.rules.specs.declared.Interrupt.{Interrupt}
use Rattle.rules.specs.declared.OpNo.{OpNo}
use Rattle.slots.proofs.Lists.{every_head, every_map}
use Rattle.slots.proofs.Padded.{entries-padded, pushed-padded}
use Rattle.slots.proofs.Tests.{and_true}
use Rattle.slots.specs.Slots.{any, count, entries, every, folded, keep, padded, pick, pushed}
use Rattle.boundary.specs.InSlots.{boundary_in, close_in, deliver_in, delivers_in, tell_uncertain_in, timer_in}

table-again : (g : Guest) → FitsGuest g → entries used_op (padded 16 zero_op g.table) ≡ g.table
table-again g f = entries-padded used_op zero_op refl 16 g.table f.table (table-room g f)

pub laid-deliver : (g : Guest) → FitsGuest g → (i : Interrupt) → deliver_in (laid_guest g) i ≡ laid_guest (deliver g i)
unfolding deliver_in deliver told laid_guest
laid-deliver g f i =
    ap (λ (t : List OpNo). pick (listed i.op t) (with_queue (with_table (laid_guest g) (padded 16 zero_op (keep (other_op i.op) t))) (pushed used_interrupt (padded 17 zero_interrupt g.queue) i)) (laid_guest g)) (table-again g f)
    ∙ go (listed i.op g.table) refl
  where
    go : (b : Bool) → listed i.op g.table ≡ b
        → pick b (with_queue (with_table (laid_guest g) (padded 16 zero_op (keep (other_op i.op) g.table))) (pushed used_interrupt (padded 17 zero_interrupt g.queue) i)) (laid_guest g)
        ≡ laid_guest (pick b (told g i) g)
    go true e = ap (λ (q : List Interrupt). with_queue (with_table (laid_guest g) (padded 16 zero_op (keep (other_op i.op) g.table))) q) (pushed-padded used_interrupt zero_interrupt refl 17 g.queue i f.queue (room-delivery g f i.op e))
    go false e = refl

pub laid-delivers : (is : List Interrupt) (g : Guest) → FitsGuest g → every used_interrupt is ≡ true → delivers_in (laid_guest g) is ≡ laid_guest (delivers g is)
unfolding folded
laid-delivers [] g f u = refl
laid-delivers (i ∷ is) g f u =
    let k = every_head used_interrupt i is u in
    rw (laid-deliver g f i) (laid-delivers is (deliver g i) (fits-deliver g f i k.0) k.1)

pub laid-uncertain : (g : Guest) → FitsGuest g → tell_uncertain_in (laid_guest g) ≡ laid_guest (tell_uncertain g)
unfolding tell_uncertain_in tell_uncertain laid_guest
laid-uncertain g f =
    ap (λ (t : List OpNo). delivers_in (laid_guest g) (map uncertain t)) (table-again g f)
    ∙ laid-delivers (map uncertain g.table) g f (every_map used_interrupt uncertain g.table (λ o. refl))

untaken : (c : ℕ) (g : Guest) → due c g ≡ true → any is_timer g.queue ≡ false
unfolding due
untaken c g e = none-count is_timer g.queue (eqb-true (count is_timer g.queue) 0 (and_true (g.armed && leb g.deadline c) (eqb (count is_timer g.queue) 0) e).1)

pub laid-timer : (c : ℕ) (g : Guest) → FitsGuest g → timer_in c (laid_guest g) ≡ laid_guest (timer c g)
unfolding timer_in timer rings laid_guest
laid-timer c g f =
    ap (λ (h : Guest). pick (due c h) (with_queue (with_timer (laid_guest g) false 0) (pushed used_interrupt (padded 17 zero_interrupt g.queue) (timer_interrupt c))) (laid_guest g)) (seen-laid g f)
    ∙ go (due c g) refl
  where
    go : (b : Bool) → due c g ≡ b
        → pick b (with_queue (with_timer (laid_guest g) false 0) (pushed used_interrupt (padded 17 zero_interrupt g.queue) (timer_interrupt c))) (laid_guest g) ≡ laid_guest (pick b (rings c g) g)
    go true e = ap (λ (q : List Interrupt). with_queue (with_timer (laid_guest g) false 0) q) (pushed-padded used_interrupt zero_interrupt refl 17 g.queue (timer_interrupt c) f.queue (room-timer g f (untaken c g e)))
    go false e = refl

pub laid-close : (c : ℕ) (g : Guest) → FitsGuest g → close_in c (laid_guest g) ≡ laid_guest (restart (timer c g))
unfolding close_in restart laid_guest
laid-close c g f = ap restart (laid-timer c g f)

pub laid-boundary : (is : List Interrupt) (c : ℕ) (g : Guest) → FitsGuest g → every used_interrupt is ≡ true → boundary_in is c (laid_guest g) ≡ laid_guest (boundary is c g)
unfolding boundary_in boundary
laid-boundary is c g f u =
    ap (close_in c) (laid-delivers is g f u) ∙ laid-close c (delivers g is) (fits-delivers is g (every-all used_interrupt is u) f)
