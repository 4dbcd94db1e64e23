-- A sound pair as records of facts, and back.
use mathlib.Core.Bool.{Bool, ◌&&◌, ◌||◌, false, not, true}
use mathlib.Core.Path.{◌≡◌, refl}
use Prim.Native.Nat.{◌+◌, ◌≤◌, suc, zero-le, ℕ}
use borrow.Author.Tests.{eq-eqb, eqb-true, le-leb, leb-true}
use lib.Dec.{eqb, leb, lit≤}
use lib.ListN.{length, length-map}
use native.Mathlib.Omega.{arith}
use Rattle.slots.proofs.Tests.{and_true, both}
use Rattle.slots.specs.Slots.{every}
use Rattle.rules.proofs.Choices.{clash, or_other}
use Rattle.rules.proofs.Decode.{good_setup}
use Rattle.rules.proofs.GuestWhole.{WholeGuest, fresh-whole, guest-whole, outstanding, whole-guest}
use Rattle.rules.proofs.Lists.{All, all-every, every-all}
use Rattle.rules.proofs.Operations.{Distinct, distinct_once, once_distinct, pigeon}
use Rattle.rules.specs.Guest.{fresh, listed, ops_of}
use Rattle.rules.specs.GuestSound.{proper, sound_guest}
use Rattle.rules.specs.Instruction.{complete}
use Rattle.rules.specs.Pair.{fresh_pair, idle, is_failed, is_following, is_promoted, is_waiting}
use Rattle.rules.specs.Program.{Setup, good}
use Rattle.rules.specs.Sound.{extra, once, sound, sound_buffer, sound_limits, sound_message, sound_turns, sound_wires, unacknowledged}
use Rattle.rules.specs.declared.Card.{Card}
use Rattle.rules.specs.declared.Interrupt.{Interrupt}
use Rattle.rules.specs.declared.OpNo.{OpNo}
use Rattle.rules.specs.declared.Pair.{Pair}
use Rattle.rules.specs.declared.Phase.{Phase}
use Rattle.rules.specs.declared.Phase.TheVariants.{Failed, Running, Waiting}

-- ---- a test for "only if"

implies : (a b : Bool) → not a || b ≡ true → a ≡ true → b ≡ true
implies true b h q = h
implies false b h q = clash q refl

implied : (a b : Bool) → (a ≡ true → b ≡ true) → not a || b ≡ true
implied true b f = f refl
implied false b f = refl

otherwise : (a b : Bool) → (a ≡ false → b ≡ true) → a || b ≡ true
otherwise true b f = refl
otherwise false b f = f refl

-- ---- a card's buffer

pub record WholeBuffer (c : Card) : Type 0 where
  pub proper : All (λ i. proper i ≡ true) c.buffer
  pub tabled : All (λ o. listed o c.guest.table ≡ true) (ops_of c.buffer)
  pub distinct : Distinct (ops_of c.buffer)

whole-buffer : (c : Card) → sound_buffer c ≡ true → WholeBuffer c
unfolding sound_buffer
whole-buffer c h =
    let a = and_true (every proper c.buffer && every (λ (o : OpNo). listed o c.guest.table) (ops_of c.buffer)) (once (ops_of c.buffer)) h in
    let b = and_true (every proper c.buffer) (every (λ (o : OpNo). listed o c.guest.table) (ops_of c.buffer)) a.0 in
    record { proper = every-all proper c.buffer b.0; tabled = every-all (λ (o : OpNo). listed o c.guest.table) (ops_of c.buffer) b.1; distinct = once_distinct (ops_of c.buffer) a.1 }

buffer-whole : (c : Card) → WholeBuffer c → sound_buffer c ≡ true
unfolding sound_buffer
buffer-whole c w = both (both (all-every proper c.buffer w.proper) (all-every (λ (o : OpNo). listed o c.guest.table) (ops_of c.buffer) w.tabled)) (distinct_once (ops_of c.buffer) w.distinct)

-- at most 16 are buffered
pub buffered : (c : Card) → outstanding c.guest ≤ 16 → WholeBuffer c → length c.buffer ≤ 16
unfolding ops_of
buffered c k w =
    let a : length (ops_of c.buffer) ≤ length c.guest.table = pigeon (ops_of c.buffer) c.guest.table w.distinct w.tabled in
    let b : length (ops_of c.buffer) ≡ length c.buffer = length-map c.buffer (λ (i : Interrupt). i.op) in
    omega arith

-- ---- link and inbox

-- what P has sent in its epoch, at most
unfoldable pub spent : Pair → ℕ
spent s = s.p.guest.times + length s.p.buffer + extra s.phase

pub extra-one : (f : Phase) → extra f ≤ 1
unfolding extra
extra-one Running = lit≤ tt
extra-one (Waiting c) = lit≤ tt
extra-one Failed = lit≤ tt

pub record WholeWires (s : Pair) : Type 0 where
  pub on_link : All (λ m. sound_message m ≡ true) s.link
  pub in_inbox : All (λ m. sound_message m ≡ true) s.inbox
  pub room : length s.inbox ≤ 128
  pub flight : unacknowledged s ≤ suc (spent s)

whole_wires : (s : Pair) → sound_wires s ≡ true → WholeWires s
unfolding sound_wires spent
whole_wires s h =
    let a = and_true _ (leb (unacknowledged s) 58) h in
    let b = and_true _ (leb (unacknowledged s) (1 + s.p.guest.times + length s.p.buffer + extra s.phase)) a.0 in
    let c = and_true _ (leb (length s.inbox) 128) b.0 in
    let d = and_true (every sound_message s.link) (every sound_message s.inbox) c.0 in
    let k = leb-true (unacknowledged s) (1 + s.p.guest.times + length s.p.buffer + extra s.phase) b.1 in
    record { on_link = every-all sound_message s.link d.0; in_inbox = every-all sound_message s.inbox d.1; room = leb-true (length s.inbox) 128 c.1; flight = omega arith }

-- the 58 follows: at most 40 TIMEs and 16 buffered
pub at-most_58 : (s : Pair) → s.p.guest.times ≤ 40 → length s.p.buffer ≤ 16 → WholeWires s → unacknowledged s ≤ 58
unfolding spent
at-most_58 s f t w = let k = w.flight in let x = extra-one s.phase in omega arith

wires_whole : (s : Pair) → s.p.guest.times ≤ 40 → length s.p.buffer ≤ 16 → WholeWires s → sound_wires s ≡ true
unfolding sound_wires spent
wires_whole s f t w =
    let k = w.flight in
    both (both (both (both (all-every sound_message s.link w.on_link) (all-every sound_message s.inbox w.in_inbox))
    (le-leb (length s.inbox) 128 w.room))
    (le-leb (unacknowledged s) (1 + s.p.guest.times + length s.p.buffer + extra s.phase) (omega arith)))
    (le-leb (unacknowledged s) 58 (at-most_58 s f t w))

-- ---- whose turn it is

pub record WholeTurns (s : Pair) : Type 0 where
  pub entered : 1 ≤ s.p.epoch.0
  pub asleep : idle s ≡ true → (is_following s.role ≡ true) × (s.b.guest.done ≡ 0)
  pub ready : is_waiting s.phase ≡ true → complete s.limit s.p.guest ≡ true
  pub stopped : s.detected ≡ true → is_failed s.phase ≡ true
  pub noticed : is_following s.role ≡ false → s.detected ≡ true
  pub unbuffered : is_promoted s.role ≡ false → length s.b.buffer ≡ 0

whole_turns : (s : Pair) → sound_turns s ≡ true → WholeTurns s
unfolding sound_turns
whole_turns s h =
    let a = and_true _ (is_promoted s.role || eqb (length s.b.buffer) 0) h in
    let b = and_true _ (is_following s.role || s.detected) a.0 in
    let c = and_true _ (not s.detected || is_failed s.phase) b.0 in
    let d = and_true _ (not (is_waiting s.phase) || complete s.limit s.p.guest) c.0 in
    let e = and_true (leb 1 s.p.epoch.0) (not (idle s) || (is_following s.role && eqb s.b.guest.done 0)) d.0 in
    record {
      entered = leb-true 1 s.p.epoch.0 e.0;
      asleep = λ q. let x = and_true (is_following s.role) (eqb s.b.guest.done 0) (implies (idle s) _ e.1 q) in (x.0, eqb-true s.b.guest.done 0 x.1);
      ready = implies (is_waiting s.phase) _ d.1;
      stopped = implies s.detected (is_failed s.phase) c.1;
      noticed = λ q. or_other (is_following s.role) s.detected b.1 q;
      unbuffered = λ q. eqb-true (length s.b.buffer) 0 (or_other (is_promoted s.role) _ a.1 q);
    }

turns_whole : (s : Pair) → WholeTurns s → sound_turns s ≡ true
unfolding sound_turns
turns_whole s w =
    both (both (both (both (both (le-leb 1 s.p.epoch.0 w.entered)
    (implied (idle s) _ (λ q. both (w.asleep q).0 (eq-eqb s.b.guest.done 0 (w.asleep q).1))))
    (implied (is_waiting s.phase) _ w.ready))
    (implied s.detected (is_failed s.phase) w.stopped))
    (otherwise (is_following s.role) s.detected w.noticed))
    (otherwise (is_promoted s.role) _ (λ q. eq-eqb (length s.b.buffer) 0 (w.unbuffered q)))

-- ---- the pair

pub record WholeLimits (s : Pair) : Type 0 where
  pub limit_least : 1 ≤ s.limit
  pub limit_most : s.limit ≤ 4096
  pub count_least : 1 ≤ s.count
  pub count_most : s.count ≤ 1024

pub record Whole (s : Pair) : Type 0 where
  pub limits : WholeLimits s
  pub first : WholeGuest s.count s.limit s.p.guest
  pub second : WholeGuest s.count s.limit s.b.guest
  pub first_buffer : WholeBuffer s.p
  pub second_buffer : WholeBuffer s.b
  pub wires : WholeWires s
  pub turns : WholeTurns s

whole_limits : (s : Pair) → sound_limits s ≡ true → WholeLimits s
unfolding sound_limits
whole_limits s h =
    let a = and_true (leb 1 s.limit && leb s.limit 4096 && leb 1 s.count) (leb s.count 1024) h in
    let b = and_true (leb 1 s.limit && leb s.limit 4096) (leb 1 s.count) a.0 in
    let c = and_true (leb 1 s.limit) (leb s.limit 4096) b.0 in
    record { limit_least = leb-true 1 s.limit c.0; limit_most = leb-true s.limit 4096 c.1; count_least = leb-true 1 s.count b.1; count_most = leb-true s.count 1024 a.1 }

limits_whole : (s : Pair) → WholeLimits s → sound_limits s ≡ true
unfolding sound_limits
limits_whole s w = both (both (both (le-leb 1 s.limit w.limit_least) (le-leb s.limit 4096 w.limit_most)) (le-leb 1 s.count w.count_least)) (le-leb s.count 1024 w.count_most)

pub whole : (s : Pair) → sound s ≡ true → Whole s
unfolding sound
whole s h =
    let a = and_true _ (sound_turns s) h in
    let b = and_true _ (sound_wires s) a.0 in
    let c = and_true _ (sound_buffer s.b) b.0 in
    let d = and_true _ (sound_buffer s.p) c.0 in
    let e = and_true _ (sound_guest s.count s.limit s.b.guest) d.0 in
    let f = and_true (sound_limits s) (sound_guest s.count s.limit s.p.guest) e.0 in
    record {
      limits = whole_limits s f.0;
      first = whole-guest s.count s.limit s.p.guest f.1;
      second = whole-guest s.count s.limit s.b.guest e.1;
      first_buffer = whole-buffer s.p d.1;
      second_buffer = whole-buffer s.b c.1;
      wires = whole_wires s b.1;
      turns = whole_turns s a.1;
    }

pub whole-sound : (s : Pair) → Whole s → sound s ≡ true
unfolding sound
whole-sound s w =
    both (both (both (both (both (both (limits_whole s w.limits)
    (guest-whole s.count s.limit s.p.guest w.first))
    (guest-whole s.count s.limit s.b.guest w.second))
    (buffer-whole s.p w.first_buffer))
    (buffer-whole s.b w.second_buffer))
    (wires_whole s w.first.forty (buffered s.p w.first.sixteen w.first_buffer) w.wires))
    (turns_whole s w.turns)

-- a fresh pair of a good program
pub whole_fresh : (S : Setup) → good S ≡ true → Whole (fresh_pair S)
unfolding fresh_pair ops_of spent extra is_waiting is_failed is_following is_promoted fresh
whole_fresh S h =
    let a = (good_setup S h).limits in
    let g : WholeGuest S.count S.limit fresh = fresh-whole S.count S.limit a.2 in
    record {
      limits = record { limit_least = a.0; limit_most = a.1; count_least = a.2; count_most = a.3 };
      first = g;
      second = g;
      first_buffer = record { proper = tt; tabled = tt; distinct = tt };
      second_buffer = record { proper = tt; tabled = tt; distinct = tt };
      wires = record { on_link = tt; in_inbox = tt; room = zero-le; flight = zero-le };
      turns = record { entered = lit≤ tt; asleep = λ _. (refl, refl); ready = λ q. clash q refl; stopped = λ q. clash q refl; noticed = λ q. clash refl q; unbuffered = λ _. refl };
    }
