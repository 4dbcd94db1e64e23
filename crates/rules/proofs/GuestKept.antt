-- One instruction and each part of the boundary keep a guest sound: proofs of specs/GuestKept.
use mathlib.Core.Bool.{◌&&◌, false, not, true}
use mathlib.Core.List.{List, [], ◌∷◌, map}
use mathlib.Core.Logic.{inl, inr}
use mathlib.Core.Path.{◌∙◌, ◌≡◌, ap, refl}
use Prim.Native.Nat.{◌<◌, ◌≤◌, suc, zero-le, ℕ}
use borrow.Author.Tests.{eqb-false, eqb-true, leb-false}
use lib.Dec.{eqb, leb}
use lib.ListN.{drop, length-append}
use native.Mathlib.Nat.{le_refl, le_trans}
use native.Mathlib.Omega.{arith}
use Rattle.slots.proofs.Lists.{keep_less}
use Rattle.slots.proofs.Tests.{and_true, both, or_false}
use Rattle.slots.specs.Slots.{count, pick}
use Rattle.rules.proofs.Ascending.{Ascends, ascends_above, ascends_keep, ascends_next}
use Rattle.rules.proofs.Choices.{pick_case}
use Rattle.rules.proofs.Decode.{good_inside, instr_inside}
use Rattle.rules.proofs.Effect.{Deed, Effect, Inside, begun, calm, effect, next_inside}
use Rattle.rules.proofs.GuestSlots.{FitsGuest, fits-sound, laid-seen, seen-laid, tight-laid_guest}
use Rattle.rules.proofs.GuestWhole.{WholeGuest, fresh-whole, guest-whole, outstanding, proper-device, proper-entry, uncertain-proper, whole-guest}
use Rattle.rules.proofs.Lists.{All, all_append, all_tail, count-append, count-one, count_other, count_tail, every-all, folded_keeps}
use Rattle.rules.specs.Boundary.{boundary, deliver, delivers, due, failover, other_op, restart, rings, tell_uncertain, timer, timer_interrupt, told, uncertain}
use Rattle.rules.specs.Guest.{fresh, listed}
use Rattle.rules.specs.GuestKept.{GuestKept, Kept, SoundGuest}
use Rattle.rules.specs.GuestSlots.{laid_guest, seen_guest, sound_in_memory, tight_guest}
use Rattle.rules.specs.GuestSound.{proper, sound_entry, sound_guest}
use Rattle.rules.specs.Instruction.{cannot_start, complete, is_device, is_time, is_timer, next, next_op, perform}
use Rattle.rules.specs.Program.{Setup, exec, instr}
use Rattle.rules.specs.declared.Guest.{Guest}
use Rattle.rules.specs.declared.Instr.{Instr}
use Rattle.rules.specs.declared.Interrupt.{Interrupt}
use Rattle.rules.specs.declared.OpNo.{OpNo}
use Rattle.rules.specs.declared.Ran.{Ran}

-- ---- one instruction

module _ (n l : ℕ) (g : Guest) (w : WholeGuest n l g) where
  -- the table, the queue and their sum, by what the instruction did
  deed_table : (r : Ran) → Deed g r → Ascends 0 r.guest.last.0 r.guest.table
  deed_table r (calm a b c d) = rw (b, c) w.ascends
  deed_table r (begun e a p f b c q) = rw (b, c) (ascends_next 0 g.last.0 g.table zero-le w.ascends)

  deed_queue : (Q : List Interrupt → Type 0) → Q g.queue → Q (drop 1 g.queue) → (r : Ran) → Deed g r → Q r.guest.queue
  deed_queue Q x y r (calm a b c (inl d)) = rw d x
  deed_queue Q x y r (calm a b c (inr d)) = rw d y
  deed_queue Q x y r (begun e a p f b c q) = rw q x

  deed_sixteen : (r : Ran) → Deed g r → outstanding r.guest ≤ 16
  unfolding cannot_start
  deed_sixteen r (calm a b c (inl d)) = rw (b, d) w.sixteen
  deed_sixteen r (calm a b c (inr d)) = rw (b, d) (let k = count_tail is_device g.queue in let s = w.sixteen in omega arith)
  deed_sixteen r (begun e a p f b c q) =
      let s = w.sixteen in
      let ne = eqb-false (outstanding g) 16 (or_false (eqb (outstanding g) 16) (eqb g.last.0 65535) f).0 in
      rw (b, q) (let k = length-append g.table (next_op g ∷ []) in omega arith)

  pub whole-perform : (i : Instr) (c : ℕ) → Inside n i → complete l g ≡ false → WholeGuest n l (perform i g (next n g) c).guest
  unfolding complete
  whole-perform i c a q =
      let r : Ran = perform i g (next n g) c in
      let e : Effect i g (next n g) r = effect i g (next n g) c in
      let x = or_false (leb l g.done) (leb 40 g.times) q in
      let y : g.done < l = leb-false l g.done x.0 in
      let z : g.times < 40 = leb-false 40 g.times x.1 in
      let t : pick (is_time i) (suc g.times) g.times ≤ suc g.times = pick_case (λ (k : ℕ). k ≤ suc g.times) (is_time i) (suc g.times) g.times (λ _. le_refl (suc g.times)) (λ _. omega arith) in
      let d = e.done in
      let u = e.times in
      let f = w.fewer in
      record {
        clock = e.clock w.clock;
        inside = e.lands n a (next_inside n g w.inside);
        short = omega arith;
        forty = omega arith;
        fewer = omega arith;
        ascends = deed_table r e.deed;
        entries = deed_queue (All (λ (j : Interrupt). sound_entry j ≡ true)) w.entries (all_tail (λ (j : Interrupt). sound_entry j ≡ true) g.queue w.entries) r e.deed;
        one_timer = deed_queue (λ (k : List Interrupt). count is_timer k ≤ 1) w.one_timer (le_trans (count_tail is_timer g.queue) w.one_timer) r e.deed;
        sixteen = deed_sixteen r e.deed;
      }

pub whole-exec : (S : Setup) (g : Guest) (c : ℕ) → complete S.limit g ≡ false → WholeGuest S.count S.limit g → WholeGuest S.count S.limit (exec S g c).guest
unfolding exec
whole-exec S g c q w = whole-perform S.count S.limit g w (instr S g) c (instr_inside S g) q

-- ---- the boundary

module _ (n l : ℕ) where
  pub whole-deliver : (g : Guest) (i : Interrupt) → proper i ≡ true → WholeGuest n l g → WholeGuest n l (deliver g i)
  unfolding deliver told listed
  whole-deliver g i p w =
      pick_case (WholeGuest n l) (listed i.op g.table) (told g i) g
      (λ q.
      record {
        clock = w.clock;
        inside = w.inside;
        short = w.short;
        forty = w.forty;
        fewer = w.fewer;
        ascends = ascends_keep (other_op i.op) 0 g.last.0 g.table w.ascends;
        entries = all_append (λ (j : Interrupt). sound_entry j ≡ true) g.queue (i ∷ []) w.entries (proper-entry i p, tt);
        one_timer = let a = count-append is_timer g.queue (i ∷ []) in let b = count_other is_timer i (proper-device i p) in let c = w.one_timer in omega arith;
        sixteen =
            (let a = count-append is_device g.queue (i ∷ []) in
            let b = count-one is_device i (ap not (proper-device i p)) in
            let c = keep_less (λ (o : OpNo). eqb o.0 i.op.0) g.table q in
            let d = w.sixteen in
            omega arith);
      })
      (λ _. w)

  pub whole-delivers : (is : List Interrupt) (g : Guest) → All (λ i. proper i ≡ true) is → WholeGuest n l g → WholeGuest n l (delivers g is)
  whole-delivers is g a w = folded_keeps (WholeGuest n l) (λ (i : Interrupt). proper i ≡ true) deliver whole-deliver is g a w

  pub whole-uncertain : (g : Guest) → WholeGuest n l g → WholeGuest n l (tell_uncertain g)
  unfolding tell_uncertain
  whole-uncertain g w = whole-delivers (map uncertain g.table) g (go g.table (ascends_above 0 g.last.0 g.table w.ascends)) w
    where
      go : (os : List OpNo) → All (λ (o : OpNo). 0 < o.0) os → All (λ (i : Interrupt). proper i ≡ true) (map uncertain os)
      go [] a = tt
      go (o ∷ os) a = (uncertain-proper o a.0, go os a.1)

  pub whole-timer : (c : ℕ) (g : Guest) → WholeGuest n l g → WholeGuest n l (timer c g)
  unfolding timer rings due sound_entry
  whole-timer c g w =
      pick_case (WholeGuest n l) (due c g) (rings c g) g
      (λ q.
      let none = eqb-true (count is_timer g.queue) 0 (and_true (g.armed && leb g.deadline c) (eqb (count is_timer g.queue) 0) q).1 in
      record {
        clock = refl;
        inside = w.inside;
        short = w.short;
        forty = w.forty;
        fewer = w.fewer;
        ascends = w.ascends;
        entries = all_append (λ (j : Interrupt). sound_entry j ≡ true) g.queue (timer_interrupt c ∷ []) w.entries (refl, tt);
        one_timer = let a = count-append is_timer g.queue (timer_interrupt c ∷ []) in let b = count-one is_timer (timer_interrupt c) refl in omega arith;
        sixteen = let a = count-append is_device g.queue (timer_interrupt c ∷ []) in let b = count_other is_device (timer_interrupt c) refl in let d = w.sixteen in omega arith;
      })
      (λ _. w)

  pub whole-restart : (g : Guest) → WholeGuest n l g → WholeGuest n l (restart g)
  unfolding restart
  whole-restart g w =
      record { clock = w.clock; inside = w.inside; short = zero-le; forty = zero-le; fewer = zero-le; ascends = w.ascends; entries = w.entries; one_timer = w.one_timer; sixteen = w.sixteen }

  pub whole-boundary : (is : List Interrupt) (c : ℕ) (g : Guest) → All (λ i. proper i ≡ true) is → WholeGuest n l g → WholeGuest n l (boundary is c g)
  unfolding boundary
  whole-boundary is c g a w = whole-restart _ (whole-timer c _ (whole-delivers is g a w))

  pub whole-failover : (is : List Interrupt) (c : ℕ) (g : Guest) → All (λ i. proper i ≡ true) is → WholeGuest n l g → WholeGuest n l (failover is c g)
  unfolding failover
  whole-failover is c g a w = whole-restart _ (whole-timer c _ (whole-uncertain _ (whole-delivers is g a w)))

  -- ---- as stated

  kept_by : (f : Guest → Guest) → ((g : Guest) → WholeGuest n l g → WholeGuest n l (f g)) → (g : Guest) → sound_guest n l g ≡ true → sound_guest n l (f g) ≡ true
  kept_by f k g s = guest-whole n l (f g) (k g (whole-guest n l g s))

  kept-model : Kept n l (λ g. sound_guest n l g ≡ true) (λ f g. f g)
  kept-model =
      record {
        instruction = λ code x y z i e c g q s. guest-whole n l _ (whole-perform n l g (whole-guest n l g s) i c (good_inside code x y z n i e) q);
        delivery = λ i p. kept_by (λ h. deliver h i) (λ h w. whole-deliver h i p w);
        deliveries = λ is p. kept_by (λ h. delivers h is) (λ h w. whole-delivers is h (every-all proper is p) w);
        uncertainty = kept_by tell_uncertain whole-uncertain;
        timers = λ c. kept_by (timer c) (whole-timer c);
        restarts = kept_by restart whole-restart;
        boundaries = λ is p c. kept_by (boundary is c) (λ h w. whole-boundary is c h (every-all proper is p) w);
        failovers = λ is p c. kept_by (failover is c) (λ h w. whole-failover is c h (every-all proper is p) w);
      }

  pub sound-laid : (g : Guest) → sound_guest n l g ≡ true → sound_in_memory n l (laid_guest g) ≡ true
  unfolding sound_in_memory
  sound-laid g s =
      let f : FitsGuest g = fits-sound n l g s in
      both (tight-laid_guest g f) (ap (sound_guest n l) (seen-laid g f) ∙ s)

  -- what is kept on the model is kept in memory
  in_memory_lem : (f : Guest → Guest) (g : Guest) → (sound_guest n l (seen_guest g) ≡ true → sound_guest n l (f (seen_guest g)) ≡ true) → sound_in_memory n l g ≡ true → sound_in_memory n l (laid_guest (f (seen_guest g))) ≡ true
  unfolding sound_in_memory
  in_memory_lem f g k s = sound-laid (f (seen_guest g)) (k (and_true (tight_guest g) (sound_guest n l (seen_guest g)) s).1)

  kept-in_memory : Kept n l (λ g. sound_in_memory n l g ≡ true) (λ f g. laid_guest (f (seen_guest g)))
  unfolding seen_guest complete
  kept-in_memory =
      let m : Kept n l (λ (g : Guest). sound_guest n l g ≡ true) (λ f g. f g) = kept-model in
      record {
        instruction = λ code x y z i e c g q. in_memory_lem (λ h. (perform i h (next n h) c).guest) g (m.instruction code x y z i e c (seen_guest g) q);
        delivery = λ i p g. in_memory_lem (λ h. deliver h i) g (m.delivery i p (seen_guest g));
        deliveries = λ is p g. in_memory_lem (λ h. delivers h is) g (m.deliveries is p (seen_guest g));
        uncertainty = λ g. in_memory_lem tell_uncertain g (m.uncertainty (seen_guest g));
        timers = λ c g. in_memory_lem (timer c) g (m.timers c (seen_guest g));
        restarts = λ g. in_memory_lem restart g (m.restarts (seen_guest g));
        boundaries = λ is p c g. in_memory_lem (boundary is c) g (m.boundaries is p c (seen_guest g));
        failovers = λ is p c g. in_memory_lem (failover is c) g (m.failovers is p c (seen_guest g));
      }

pub guest-kept : GuestKept
guest-kept = record { start = λ n l h. guest-whole n l fresh (fresh-whole n l h); model = kept-model; laid = sound-laid; in_memory = kept-in_memory }

-- ---- a sound guest in memory: its model is sound and fits its slots, and it is its model, laid out

module _ (n l : ℕ) (g : Guest) (s : SoundGuest n l g) where
  pub sound-seen : sound_guest n l (seen_guest g) ≡ true
  unfolding sound_in_memory
  sound-seen = (and_true (tight_guest g) (sound_guest n l (seen_guest g)) s.sound).1

  pub sound-fits : FitsGuest (seen_guest g)
  sound-fits = fits-sound n l (seen_guest g) sound-seen

  pub sound-again : g ≡ laid_guest (seen_guest g)
  unfolding sound_in_memory
  sound-again = laid-seen g s.table s.queue (and_true (tight_guest g) (sound_guest n l (seen_guest g)) s.sound).0
