-- Between a guest and its slots: what is laid out is seen again, and a guest whose slots are tight is what it holds, laid out.
use mathlib.Core.Bool.{Bool, ◌&&◌, ◌||◌, false, true}
use mathlib.Core.List.{List, [], ◌∷◌, map}
use mathlib.Core.Logic.{◌⊎◌, inl, inr}
use mathlib.Core.Path.{◌∙◌, ◌≡◌, refl, sym}
use Prim.Native.Nat.{◌+◌, ◌<◌, ◌≤◌, suc, zero-le, ℕ}
use borrow.Author.Tests.{eqb-false, eqb-true}
use lib.Dec.{eqb, leb}
use lib.ListN.{length, length-append}
use native.Mathlib.Nat.{le_refl}
use native.Mathlib.Omega.{arith}
use Rattle.slots.proofs.Lists.{any_here, count_split, every_append, every_map, every_one, keep-every, keep_less}
use Rattle.slots.proofs.Padded.{entries-padded, tight-laid, tight-padded}
use Rattle.slots.proofs.Tests.{and_true, both, is_used, or_false}
use Rattle.slots.specs.Slots.{any, count, every, pick, tight}
use Rattle.rules.proofs.Ascending.{ascends_above}
use Rattle.rules.proofs.Choices.{by_cases, pick_case, pick-false}
use Rattle.rules.proofs.GuestWhole.{WholeGuest, proper-status, whole-guest}
use Rattle.rules.proofs.Lists.{All, all-every, all_map, any_append, any-count, count_none, every-all, folded_keeps, none-count}
use Rattle.rules.specs.Boundary.{deliver, delivers, due, other_op, restart, rings, tell_uncertain, timer, timer_interrupt, told, uncertain}
use Rattle.rules.specs.Guest.{listed, with_queue, with_table}
use Rattle.rules.specs.Zeros.{zero_interrupt_lem, zero_op_lem}
use Rattle.rules.specs.GuestSlots.{is_zero_interrupt, is_zero_op, laid_guest, seen_guest, tight_guest, used_interrupt, used_op, zero_interrupt, zero_op}
use Rattle.rules.specs.GuestSound.{proper, sound_entry, sound_guest}
use Rattle.rules.specs.Instruction.{cannot_start, is_device, is_timer}
use Rattle.rules.specs.declared.Guest.{Guest}
use Rattle.rules.specs.declared.Interrupt.{Interrupt}
use Rattle.rules.specs.declared.OpNo.{OpNo}

-- ---- a guest that its slots can hold

-- Every entry is in use. Each operation of the table has room in the queue for the interrupt that takes its place,
-- and there is a slot more for the timer's.
pub record FitsGuest (g : Guest) : Type 0 where
  pub table : every used_op g.table ≡ true
  pub queue : every used_interrupt g.queue ≡ true
  pub room : length g.table + length g.queue ≤ 16 + pick (any is_timer g.queue) 1 0

-- at most one more, and only where one is there
timer-room : (q : List Interrupt) → (pick (any is_timer q) 1 0 ≤ 1) × (pick (any is_timer q) 1 0 ≤ length q)
unfolding any
timer-room [] = (zero-le, zero-le)
timer-room (i ∷ q) = pick_case (λ (k : ℕ). (k ≤ 1) × (k ≤ suc (length q))) (is_timer i || any is_timer q) 1 0 (λ _. (le_refl 1, omega arith)) (λ _. (zero-le, zero-le))

module _ (g : Guest) (f : FitsGuest g) where
  -- each list is within its slots
  pub table-room : length g.table ≤ 16
  table-room = let a = f.room in let b = timer-room g.queue in omega arith

  pub queue-room : length g.queue ≤ 17
  queue-room = let a = f.room in let b = timer-room g.queue in omega arith

  -- there is a free slot for an operation's interrupt, and for the timer's where none is untaken
  pub room-delivery : (n : OpNo) → listed n g.table ≡ true → length g.queue < 17
  unfolding listed
  room-delivery n q = let a = f.room in let b = timer-room g.queue in let c = keep_less (λ (o : OpNo). eqb o.0 n.0) g.table q in omega arith

  pub room-timer : any is_timer g.queue ≡ false → length g.queue < 17
  room-timer q = let a : length g.table + length g.queue ≤ 16 + pick false 1 0 = rw q at f.room in omega arith

  -- and for a new operation in the table
  pub room-start : cannot_start g ≡ false → length g.table < 16
  unfolding cannot_start
  room-start q =
      let c = count_split is_timer g.queue in
      let d = eqb-false (length g.table + count is_device g.queue) 16 (or_false (eqb (length g.table + count is_device g.queue) 16) (eqb g.last.0 65535) q).0 in
      by_cases (any is_timer g.queue)
      (λ t.
      let a : length g.table + length g.queue ≤ 16 + pick true 1 0 = rw t at f.room in
      let b = any-count is_timer g.queue t in
      omega arith)
      (λ t.
      let a : length g.table + length g.queue ≤ 16 + pick false 1 0 = rw t at f.room in
      let b = count_none is_timer g.queue t in
      omega arith)

  -- what is laid out is seen again, and its slots are tight
  pub seen-laid : seen_guest (laid_guest g) ≡ g
  unfolding seen_guest laid_guest
  seen-laid =
      let a = entries-padded used_op zero_op refl 16 g.table f.table table-room in
      let b = entries-padded used_interrupt zero_interrupt refl 17 g.queue f.queue queue-room in
      λ k. with_queue (with_table g (a k)) (b k)

  pub tight-laid_guest : tight_guest (laid_guest g) ≡ true
  unfolding tight_guest laid_guest
  tight-laid_guest = both (tight-padded used_op zero_op refl is_zero_op refl 16 g.table f.table) (tight-padded used_interrupt zero_interrupt refl is_zero_interrupt refl 17 g.queue f.queue)

-- ---- the boundary's parts fit again, whatever is delivered

module _ (g : Guest) (f : FitsGuest g) where
  pub fits-deliver : (i : Interrupt) → used_interrupt i ≡ true → FitsGuest (deliver g i)
  unfolding deliver told listed
  fits-deliver i u =
      pick_case FitsGuest (listed i.op g.table) (told g i) g
      (λ q.
      record {
        table = keep-every (other_op i.op) used_op g.table f.table;
        queue = every_append used_interrupt g.queue (i ∷ []) f.queue (every_one used_interrupt i u);
        room =
            (let a = f.room in
            let b = length-append g.queue (i ∷ []) in
            let c = keep_less (λ (o : OpNo). eqb o.0 i.op.0) g.table q in
            let d = more (any is_timer g.queue) (any is_timer (i ∷ [])) in
            rw (any_append is_timer g.queue (i ∷ [])) (omega arith));
      })
      (λ _. f)
    where
      more : (a b : Bool) → pick a 1 0 ≤ pick (a || b) 1 0
      more true b = le_refl 1
      more false b = zero-le

  pub fits-timer : (c : ℕ) → FitsGuest (timer c g)
  unfolding timer rings due
  fits-timer c =
      pick_case FitsGuest (due c g) (rings c g) g
      (λ q.
      let n : any is_timer g.queue ≡ false = none-count is_timer g.queue (eqb-true (count is_timer g.queue) 0 (and_true (g.armed && leb g.deadline c) (eqb (count is_timer g.queue) 0) q).1) in
      record {
        table = f.table;
        queue = every_append used_interrupt g.queue (timer_interrupt c ∷ []) f.queue (every_one used_interrupt (timer_interrupt c) refl);
        room =
            (let a : length g.table + length g.queue ≤ 16 + pick false 1 0 = rw n at f.room in
            let b = length-append g.queue (timer_interrupt c ∷ []) in
            rw (any_append is_timer g.queue (timer_interrupt c ∷ []), n, any_here is_timer (timer_interrupt c) [] refl) (omega arith));
      })
      (λ _. f)

  pub fits-restart : FitsGuest (restart g)
  unfolding restart
  fits-restart = record { table = f.table; queue = f.queue; room = f.room }

pub fits-delivers : (is : List Interrupt) (g : Guest) → All (λ i. used_interrupt i ≡ true) is → FitsGuest g → FitsGuest (delivers g is)
fits-delivers is g a f = folded_keeps FitsGuest (λ (i : Interrupt). used_interrupt i ≡ true) deliver (λ h i u k. fits-deliver h k i u) is g a f

pub fits-uncertain : (g : Guest) → FitsGuest g → FitsGuest (tell_uncertain g)
unfolding tell_uncertain
fits-uncertain g f = fits-delivers (map uncertain g.table) g (every-all used_interrupt _ (every_map used_interrupt uncertain g.table (λ o. refl))) f

-- a guest in memory whose slots are tight
pub laid-seen : (g : Guest) → length g.table ≡ 16 → length g.queue ≡ 17 → tight_guest g ≡ true → g ≡ laid_guest (seen_guest g)
unfolding tight_guest laid_guest seen_guest
laid-seen g s t h =
    let a = and_true (tight used_op is_zero_op g.table) (tight used_interrupt is_zero_interrupt g.queue) h in
    let b = tight-laid used_op is_zero_op zero_op zero_op_lem 16 g.table s a.0 in
    let c = tight-laid used_interrupt is_zero_interrupt zero_interrupt zero_interrupt_lem 17 g.queue t a.1 in
    λ k. with_queue (with_table g (b k)) (c k)

-- ---- a sound guest fits

pub proper_used : (i : Interrupt) → proper i ≡ true → used_interrupt i ≡ true
proper_used i h = is_used i.status (go (proper-status i h))
  where
    go : (i.status ≡ 1) ⊎ (i.status ≡ 2) → i.status ≡ 0 → ⊥
    go (inl a) q = omega arith
    go (inr a) q = omega arith

entry_used : (i : Interrupt) → sound_entry i ≡ true → used_interrupt i ≡ true
unfolding sound_entry
entry_used i h =
    by_cases (is_timer i)
    (λ t. let z : i.status ≡ 3 = eqb-true i.status 3 t in is_used i.status (λ q. omega arith))
    (λ t. proper_used i (sym (pick-false (eqb i.op.0 0) (proper i) t) ∙ h))

pub fits_whole : (n l : ℕ) (g : Guest) → WholeGuest n l g → FitsGuest g
fits_whole n l g w =
    record {
      table = all-every used_op g.table (all_map (λ (o : OpNo). 0 < o.0) (λ (o : OpNo). used_op o ≡ true) (λ o k. is_used o.0 (λ e. omega arith)) g.table (ascends_above 0 g.last.0 g.table w.ascends));
      queue = all-every used_interrupt g.queue (all_map (λ (i : Interrupt). sound_entry i ≡ true) (λ (i : Interrupt). used_interrupt i ≡ true) entry_used g.queue w.entries);
      room =
          (let a = w.sixteen in
          let b = count_split is_timer g.queue in
          let c = w.one_timer in
          pick_case (λ (k : ℕ). length g.table + length g.queue ≤ 16 + k) (any is_timer g.queue) 1 0 (λ _. omega arith) (λ q. let d = count_none is_timer g.queue q in omega arith));
    }

pub fits-sound : (n l : ℕ) (g : Guest) → sound_guest n l g ≡ true → FitsGuest g
fits-sound n l g s = fits_whole n l g (whole-guest n l g s)
