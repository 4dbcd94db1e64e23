-- What each event between the cards comes to on a sound pair: refused by its column, or taken.
use mathlib.Core.Bool.{◌||◌, false, not, true}
use mathlib.Core.List.{List, [], ◌∷◌}
use mathlib.Core.Path.{◌∙◌, ◌≡◌, ap, refl}
use Prim.Native.Nat.{◌+◌, ◌-◌, ◌<◌, ◌≤◌, pred, suc, zero, ℕ}
use borrow.Author.Tests.{eq-eqb, le-leb, lt-leb, ne_eqb}
use lib.Dec.{leb}
use lib.ListN.{drop, length}
use native.Mathlib.Numerals.{add-one}
use native.Mathlib.Omega.{arith}
use Rattle.tidy.proofs.Goes.{b-again, does-refused, does-taken, inbox_more, p-again}
use Rattle.outcomes.specs.Made.{done}
use Rattle.tidy.specs.Tidy.{Tidy, does}
use Rattle.rules.proofs.PairWhole.{at-most_58, buffered, whole}
use Rattle.rules.specs.Events.{handle, linked, refuse, refused, taken}
use Rattle.rules.specs.Pair.{acknowledged, halted, is_failed, noticed, received, setup_of}
use Rattle.rules.specs.PairSlots.{laid, outcome, seen, used_message, zero_message}
use Rattle.rules.specs.declared.Event.TheVariants.{Ack, Detect, Fail, Link}
use Rattle.rules.specs.declared.Message.{Message}
use Rattle.rules.specs.declared.Pair.{Pair}
use Rattle.rules.specs.declared.Refusal.TheVariants.{Dead, InboxFull, MustWait, OutOfTurn}
use Rattle.slots.specs.Slots.{entries, padded, pushed}
use Rattle.std.specs.Prelude.{None, get_or}

-- the code's one less, and the rule's
one_less : (n : ℕ) → n - 1 ≡ pred n
one_less zero = refl
one_less (suc n) = omega arith

module _ (s : Pair) where
  -- the messages in flight, and those in B's inbox
  abbrev flying : List Message
  flying = entries used_message s.link

  abbrev arrived : List Message
  arrived = entries used_message s.inbox

  -- ---- LINK

  pub link_none_lem : length flying ≡ 0 → outcome s (refused MustWait) ≡ does [] s Link
  unfolding handle linked seen
  link_none_lem n = does-refused [] s Link MustWait (waits flying n)
    where
      waits : (ms : List Message) → length ms ≡ 0 → linked (seen s) ms ≡ refused MustWait
      waits [] h = refl
      waits (m ∷ ms) h = absurd (omega arith)

  -- a message in flight: the inbox decides
  module _ (n : length flying ≡ 0 → ⊥) where
    -- the pair that is left, without its free slots; and in memory, with these slots on the link and in the inbox
    abbrev oldest : List Message → Message
    oldest ms = get_or ms 0 zero_message

    abbrev link_next : Pair
    link_next = received (seen s) (oldest flying) (drop 1 flying)

    abbrev link_laid : List Message → List Message → Pair
    link_laid ms ns = record { p = s.p; phase = s.phase; b = s.b; role = s.role; detected = s.detected; limit = s.limit; count = s.count; link = ms; acks = s.acks + 1; inbox = ns }

    in_flight : handle (setup_of [] s) (seen s) Link ≡ refuse (leb 128 (length arrived)) InboxFull (taken link_next None)
    unfolding handle linked seen
    in_flight = moves flying n
      where
        moves : (ms : List Message) → (length ms ≡ 0 → ⊥) → linked (seen s) ms ≡ refuse (leb 128 (length arrived)) InboxFull (taken (received (seen s) (oldest ms) (drop 1 ms)) None)
        moves [] h = absurd (h refl)
        moves (m ∷ ms) h = refl

    pub link_full_lem : 128 ≤ length arrived → outcome s (refused InboxFull) ≡ does [] s Link
    unfolding refuse
    link_full_lem f = does-refused [] s Link InboxFull (in_flight ∙ rw (le-leb 128 (length arrived) f))

    pub link_taken : Tidy s → length arrived < 128 → (ms ns : List Message) → ms ≡ padded 58 zero_message (drop 1 flying) → ns ≡ pushed used_message s.inbox (oldest flying) → done (link_laid ms ns) None ≡ does [] s Link
    unfolding refuse laid received seen
    link_taken t f ms ns d e =
        let more = e ∙ inbox_more s t (oldest flying) f in
        does-taken [] s Link link_next None (link_laid ms ns) (in_flight ∙ rw (lt-leb 128 (length arrived) f))
        (λ i. record { p = p-again s t i; phase = s.phase; b = b-again s t i; role = s.role; detected = s.detected; limit = s.limit; count = s.count; link = d i; acks = add-one s.acks i; inbox = more i })

  -- "At most 58 messages are unacknowledged": one more acknowledgement fits
  pub few_acks : Tidy s → s.acks ≤ 58
  unfolding seen
  few_acks t =
      let w = whole (seen s) t.whole in
      let k = at-most_58 (seen s) w.first.forty (buffered (seen s).p w.first.sixteen w.first_buffer) w.wires in
      omega arith

  -- ---- ACK

  pub ack_dead_lem : is_failed s.phase ≡ true → outcome s (refused Dead) ≡ does [] s Ack
  unfolding handle refuse seen
  ack_dead_lem f = does-refused [] s Ack Dead (rw f)

  pub ack_none_lem : is_failed s.phase ≡ false → s.acks ≡ 0 → outcome s (refused MustWait) ≡ does [] s Ack
  unfolding handle refuse seen
  ack_none_lem f n = does-refused [] s Ack MustWait (rw (f, eq-eqb s.acks 0 n))

  -- the pair in memory with this many acknowledgements in flight
  abbrev ack_laid : ℕ → Pair
  ack_laid k = record { p = s.p; phase = s.phase; b = s.b; role = s.role; detected = s.detected; limit = s.limit; count = s.count; link = s.link; acks = k; inbox = s.inbox }

  pub ack_taken : Tidy s → is_failed s.phase ≡ false → (s.acks ≡ 0 → ⊥) → done (ack_laid (s.acks - 1)) None ≡ does [] s Ack
  unfolding handle refuse seen laid acknowledged
  ack_taken t f n =
      ap (λ (k : ℕ). done (ack_laid k) None) (one_less s.acks)
      ∙ does-taken [] s Ack (acknowledged (seen s)) None (acknowledged s) (rw (f, ne_eqb s.acks 0 n)) (ap acknowledged t.again)

  -- ---- FAIL

  pub fail_dead_lem : is_failed s.phase ≡ true → outcome s (refused Dead) ≡ does [] s Fail
  unfolding handle refuse seen
  fail_dead_lem f = does-refused [] s Fail Dead (rw f)

  pub fail_taken : Tidy s → is_failed s.phase ≡ false → done (halted s) None ≡ does [] s Fail
  unfolding handle refuse seen laid halted
  fail_taken t f = does-taken [] s Fail (halted (seen s)) None (halted s) (rw f) (ap halted t.again)

  -- ---- DETECT

  pub detect_early_lem : not (is_failed s.phase) || s.detected ≡ true → outcome s (refused OutOfTurn) ≡ does [] s Detect
  unfolding handle refuse seen
  detect_early_lem f = does-refused [] s Detect OutOfTurn (rw f)

  pub detect_waits : not (is_failed s.phase) || s.detected ≡ false → (length flying ≡ 0 → ⊥) → outcome s (refused MustWait) ≡ does [] s Detect
  unfolding handle refuse seen
  detect_waits f n = does-refused [] s Detect MustWait (rw (f, ne_eqb (length flying) 0 n))

  pub detect_taken : Tidy s → not (is_failed s.phase) || s.detected ≡ false → length flying ≡ 0 → done (noticed s) None ≡ does [] s Detect
  unfolding handle refuse seen laid noticed
  detect_taken t f n = does-taken [] s Detect (noticed (seen s)) None (noticed s) (rw (f, eq-eqb (length flying) 0 n)) (ap noticed t.again)

-- ---- what the check may use of these, for each function

pub ruleset of_link = (link_none_lem, link_full_lem, link_taken, few_acks)

pub ruleset of_ack = (ack_dead_lem, ack_none_lem, ack_taken)

pub ruleset of_fail = (fail_dead_lem, fail_taken)

pub ruleset of_detect = (detect_early_lem, detect_waits, detect_taken)
