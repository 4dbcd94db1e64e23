-- A sound guest as a record of facts, and back.
use mathlib.Core.Bool.{◌&&◌, ◌||◌, false, true}
use mathlib.Core.Logic.{◌⊎◌, inl, inr}
use mathlib.Core.Path.{◌≡◌, refl}
use Prim.Native.Nat.{◌+◌, ◌<◌, ◌≤◌, zero-le, ℕ}
use borrow.Author.Tests.{eqb-true, le-leb, leb-true, lt-ltb, ltb-true, ne_eqb}
use lib.Dec.{eqb, leb, ltb}
use lib.ListN.{length}
use native.Mathlib.Omega.{arith}
use Rattle.slots.proofs.Tests.{and_true, both}
use Rattle.slots.specs.Slots.{count, every, keep}
use Rattle.rules.proofs.Ascending.{Ascends, ascending_fact, fact_ascending}
use Rattle.rules.proofs.Choices.{or_true}
use Rattle.rules.proofs.Lists.{All, all-every, every-all}
use Rattle.rules.specs.Boundary.{uncertain}
use Rattle.rules.specs.Guest.{fresh}
use Rattle.rules.specs.GuestSound.{ascending, proper, says, sound_entry, sound_guest}
use Rattle.rules.specs.Instruction.{is_device, is_timer}
use Rattle.rules.specs.declared.Guest.{Guest}
use Rattle.rules.specs.declared.Interrupt.{Interrupt}
use Rattle.rules.specs.declared.OpNo.{OpNo}

-- table entries and untaken device interrupts
abbrev pub outstanding : Guest → ℕ
outstanding g = length g.table + count is_device g.queue

-- under N and L
pub record WholeGuest (n l : ℕ) (g : Guest) : Type 0 where
  pub clock : g.armed || eqb g.deadline 0 ≡ true
  pub inside : g.pc < n
  pub short : g.done ≤ l
  pub forty : g.times ≤ 40
  pub fewer : g.times ≤ g.done
  pub ascends : Ascends 0 g.last.0 g.table
  pub entries : All (λ i. sound_entry i ≡ true) g.queue
  pub one_timer : count is_timer g.queue ≤ 1
  pub sixteen : outstanding g ≤ 16

pub whole-guest : (n l : ℕ) (g : Guest) → sound_guest n l g ≡ true → WholeGuest n l g
unfolding sound_guest
whole-guest n l g h =
    let a = and_true _ (leb (outstanding g) 16) h in
    let b = and_true _ (leb (count is_timer g.queue) 1) a.0 in
    let c = and_true _ (every sound_entry g.queue) b.0 in
    let d = and_true _ (ascending 0 g.last.0 g.table) c.0 in
    let e = and_true _ (leb g.times g.done) d.0 in
    let f = and_true _ (leb g.times 40) e.0 in
    let i = and_true _ (leb g.done l) f.0 in
    let j = and_true (g.armed || eqb g.deadline 0) (ltb g.pc n) i.0 in
    record {
      clock = j.0;
      inside = ltb-true g.pc n j.1;
      short = leb-true g.done l i.1;
      forty = leb-true g.times 40 f.1;
      fewer = leb-true g.times g.done e.1;
      ascends = ascending_fact 0 g.last.0 g.table d.1;
      entries = every-all sound_entry g.queue c.1;
      one_timer = leb-true (count is_timer g.queue) 1 b.1;
      sixteen = leb-true (outstanding g) 16 a.1;
    }

pub guest-whole : (n l : ℕ) (g : Guest) → WholeGuest n l g → sound_guest n l g ≡ true
unfolding sound_guest
guest-whole n l g w =
    both (both (both (both (both (both (both (both w.clock (lt-ltb g.pc n w.inside))
    (le-leb g.done l w.short))
    (le-leb g.times 40 w.forty))
    (le-leb g.times g.done w.fewer))
    (fact_ascending 0 g.last.0 g.table w.ascends))
    (all-every sound_entry g.queue w.entries))
    (le-leb (count is_timer g.queue) 1 w.one_timer))
    (le-leb (outstanding g) 16 w.sixteen)

-- a fresh guest
pub fresh-whole : (n l : ℕ) → 0 < n → WholeGuest n l fresh
unfolding fresh keep
fresh-whole n l h = record { clock = refl; inside = h; short = zero-le; forty = zero-le; fewer = zero-le; ascends = tt; entries = tt; one_timer = zero-le; sixteen = zero-le }

-- ---- an interrupt as in PINT

pub proper-status : (i : Interrupt) → proper i ≡ true → (i.status ≡ 1) ⊎ (i.status ≡ 2)
unfolding proper says
proper-status i h = go (or_true (eqb i.status 1) (eqb i.status 2 && eqb i.word 0) (and_true _ (leb 1 i.op.0) h).0)
  where
    go : (eqb i.status 1 ≡ true) ⊎ (eqb i.status 2 && eqb i.word 0 ≡ true) → (i.status ≡ 1) ⊎ (i.status ≡ 2)
    go (inl a) = inl (eqb-true i.status 1 a)
    go (inr a) = inr (eqb-true i.status 2 (and_true (eqb i.status 2) (eqb i.word 0) a).0)

-- it is a device's
pub proper-device : (i : Interrupt) → proper i ≡ true → is_timer i ≡ false
proper-device i h = ne_eqb i.status 3 (λ q. go (proper-status i h) q)
  where
    go : (i.status ≡ 1) ⊎ (i.status ≡ 2) → i.status ≡ 3 → ⊥
    go (inl a) q = omega arith
    go (inr a) q = omega arith

pub proper-entry : (i : Interrupt) → proper i ≡ true → sound_entry i ≡ true
unfolding sound_entry
proper-entry i h = rw (proper-device i h) h

pub uncertain-proper : (o : OpNo) → 0 < o.0 → proper (uncertain o) ≡ true
unfolding proper says
uncertain-proper o h = le-leb 1 o.0 h
