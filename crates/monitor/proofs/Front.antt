-- The tests in front of an event, and the events that look at no byte of the program.
use mathlib.Core.Bool.{false, true}
use mathlib.Core.List.{List, []}
use mathlib.Core.Path.{◌≡◌, refl}
use Prim.Native.Nat.{◌*◌, ℕ}
use borrow.Author.Tests.{not-false}
use lib.Dec.{eqb}
use lib.ListN.{length}
use Rattle.tidy.specs.Tidy.{Tidy, does}
use Rattle.rules.specs.Bytes.{apply_read, read_event, stepped}
use Rattle.rules.specs.Events.{handle, in_front, malformed, refuse, refused}
use Rattle.rules.specs.GuestSound.{proper}
use Rattle.rules.specs.Pair.{setup_of}
use Rattle.rules.specs.PairSlots.{apply, laid, outcome, seen, sound_pair, tight_pair}
use Rattle.rules.specs.Sound.{sound}
use Rattle.rules.specs.declared.Event.{Event}
use Rattle.rules.specs.declared.Event.TheVariants.{Ack, BEnd, BInt, Detect, Fail, Link, PEnd, PInt, PTime}
use Rattle.rules.specs.declared.Interrupt.{Interrupt}
use Rattle.rules.specs.declared.Pair.{Pair}
use Rattle.rules.specs.declared.Refusal.TheVariants.{BadProgram, Malformed, Unsound}
use Rattle.slots.proofs.Tests.{and_true}
use Rattle.std.specs.Prelude.{Some, None}

module _ (code : List ℕ) (s : Pair) where
  pub any_int : (i : Interrupt) → does [] s (PInt i) ≡ does code s (PInt i)
  unfolding handle
  any_int i = refl

  pub any_time : (w : ℕ) → does [] s (PTime w) ≡ does code s (PTime w)
  unfolding handle setup_of
  any_time w = refl

  pub any_end : does [] s PEnd ≡ does code s PEnd
  unfolding handle
  any_end = refl

  pub any_link : does [] s Link ≡ does code s Link
  unfolding handle
  any_link = refl

  pub any_ack : does [] s Ack ≡ does code s Ack
  unfolding handle
  any_ack = refl

  pub any_fail : does [] s Fail ≡ does code s Fail
  unfolding handle
  any_fail = refl

  pub any_detect : does [] s Detect ≡ does code s Detect
  unfolding handle
  any_detect = refl

  pub any_bend : (w : ℕ) → does [] s (BEnd w) ≡ does code s (BEnd w)
  unfolding handle setup_of
  any_bend w = refl

  pub any_bint : (i : Interrupt) → does [] s (BInt i) ≡ does code s (BInt i)
  unfolding handle
  any_bint i = refl

  module _ (ev : Event) where
    pub front_malformed : malformed ev ≡ true → outcome s (refused Malformed) ≡ outcome s (apply code s ev)
    unfolding apply in_front refuse
    front_malformed m = rw m

    module _ (formed : malformed ev ≡ false) where
      pub front_unsound : sound_pair s ≡ false → outcome s (refused Unsound) ≡ outcome s (apply code s ev)
      unfolding apply in_front refuse
      front_unsound u = rw (formed, u)

      pub front_length : sound_pair s ≡ true → eqb (length code) (4 * s.count) ≡ false → outcome s (refused BadProgram) ≡ outcome s (apply code s ev)
      unfolding apply in_front refuse
      front_length u l = rw (formed, u, l)

      pub front_passed : sound_pair s ≡ true → eqb (length code) (4 * s.count) ≡ true → does code s ev ≡ outcome s (apply code s ev)
      unfolding apply in_front refuse
      front_passed u l = rw (formed, u, l)

-- a pair that passed the test, as the events meet it
pub tidy : (s : Pair) → sound_pair s ≡ true → s ≡ laid (seen s) → Tidy s
unfolding sound_pair
tidy s u again = record { again = again; whole = (and_true (tight_pair s) (sound (seen s)) u).1 }

-- what the two kinds with an interrupt may hold
pub proper_int : (i : Interrupt) → malformed (PInt i) ≡ false → proper i ≡ true
unfolding malformed
proper_int i m = not-false (proper i) m

pub proper_bint : (i : Interrupt) → malformed (BInt i) ≡ false → proper i ≡ true
unfolding malformed
proper_bint i m = not-false (proper i) m

-- read, and then taken or refused
module _ (code : List ℕ) (s : Pair) (bytes : List ℕ) where
  pub stepped_read : (ev : Event) → read_event bytes ≡ Some ev → outcome s (apply code s ev) ≡ stepped code s bytes
  unfolding stepped apply_read
  stepped_read ev e = rw e

  pub stepped_ill : read_event bytes ≡ None → outcome s (refused Malformed) ≡ stepped code s bytes
  unfolding stepped apply_read
  stepped_ill e = rw e

-- ---- what the check may use of these, for each function

pub ruleset of_handle = (proper_int, proper_bint, any_int, any_time, any_end, any_link, any_ack, any_fail, any_detect, any_bend, any_bint)

pub ruleset of_take = (tidy, front_malformed, front_unsound, front_length, front_passed)

pub ruleset of_step = (stepped_read, stepped_ill)
