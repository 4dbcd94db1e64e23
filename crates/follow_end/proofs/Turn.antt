-- BEND on a sound pair: the event by B's role, and its column.
use mathlib.Core.Bool.{Bool, ◌&&◌, false, not, true}
use mathlib.Core.List.{List, []}
use mathlib.Core.Path.{◌∙◌, ◌≡◌, ap, refl}
use Prim.Native.Nat.{ℕ}
use lib.Dec.{eqb}
use Rattle.boundary.proofs.Laid.{laid-boundary}
use Rattle.boundary.specs.InSlots.{boundary_in}
use Rattle.tidy.proofs.Goes.{b-again, b-fits, does-refused, guest-again, inbox-same}
use Rattle.outcomes.specs.Made.{done}
use Rattle.tidy.specs.Tidy.{Tidy, does}
use Rattle.rules.proofs.GuestSlots.{proper_used}
use Rattle.rules.proofs.Lists.{all-every, all_map}
use Rattle.rules.proofs.PairKept.{ints-proper}
use Rattle.rules.proofs.PairWhole.{whole}
use Rattle.rules.specs.Events.{Verdict, ended, handle, refuse, refused, taken, turned}
use Rattle.rules.specs.GuestSlots.{laid_guest, seen_guest, used_interrupt, zero_interrupt}
use Rattle.rules.specs.GuestSound.{proper}
use Rattle.rules.specs.Instruction.{complete}
use Rattle.rules.specs.Messages.{drop_epoch, has_end, ints}
use Rattle.rules.specs.Pair.{enters, idle, next_epoch, on_b, setup_of}
use Rattle.rules.specs.PairSlots.{laid_card, outcome, seen, seen_card, stored, used_message, zero_message}
use Rattle.rules.specs.declared.Event.TheVariants.{BEnd}
use Rattle.rules.specs.declared.Guest.{Guest}
use Rattle.rules.specs.declared.Interrupt.{Interrupt}
use Rattle.rules.specs.declared.Message.{Message}
use Rattle.rules.specs.declared.Pair.{Pair}
use Rattle.rules.specs.declared.Refusal.TheVariants.{EpochsUsedUp, MustWait, OutOfTurn}
use Rattle.rules.specs.declared.Role.{Role}
use Rattle.rules.specs.declared.Role.TheVariants.{Failover, Following, Promoted}
use Rattle.slots.proofs.Entries.{entries-all}
use Rattle.slots.specs.Slots.{entries, every, padded, pick}
use Rattle.tidy.proofs.Taken.{taken_on}
use Rattle.turn.proofs.Laid.{laid-turned, laid-turned_last}
use Rattle.turn.specs.InSlots.{turned_in, turned_last_in}
use Rattle.follow_end.specs.InSlots.{enters_in}
use Rattle.std.specs.Prelude.{None}

-- ---- by role

module _ (s : Pair) (t : Tidy s) (w : ℕ) where
  -- the messages in the inbox
  abbrev inbox : List Message
  inbox = entries used_message s.inbox

  -- the Ints that they carry are of status 1 or 2
  ints_used : every used_interrupt (ints s.b.epoch inbox) ≡ true
  unfolding seen
  ints_used =
      all-every used_interrupt (ints s.b.epoch inbox)
      (all_map (λ (i : Interrupt). proper i ≡ true) (λ (i : Interrupt). used_interrupt i ≡ true) proper_used (ints s.b.epoch inbox)
      (ints-proper s.b.epoch inbox (whole (seen s) t.whole).wires.in_inbox))

  -- B's guest is what it holds, laid out
  again : s.b.guest ≡ laid_guest (seen_guest s.b.guest)
  again = guest-again s.b (b-again s t)

  enters-laid : (g' g : Guest) → g' ≡ laid_guest g → enters_in s.b g' ≡ laid_card (enters (seen_card s.b) g)
  unfolding enters_in laid_card enters seen_card
  enters-laid g' g e = λ k. record { guest = e k; epoch = next_epoch s.b.epoch; buffer = padded 16 zero_interrupt [] }

  pub following_waits : has_end (next_epoch s.b.epoch) inbox ≡ false → s.detected ≡ false → outcome s (refused MustWait) ≡ outcome s (stored (ended (seen s) w Following))
  unfolding ended refuse seen seen_card stored
  following_waits h d = rw (h, d)

  -- P5, or else P7: the role that B goes on in
  following_goes : (b : Bool) → has_end (next_epoch s.b.epoch) inbox ≡ b → not b && not s.detected ≡ false
      → done (on_b s (enters_in s.b (turned_in s.b.epoch s.b.guest inbox w)) (pick b Following Failover) (padded 128 zero_message (drop_epoch s.b.epoch inbox))) None
      ≡ outcome s (stored (ended (seen s) w Following))
  following_goes b h d =
      taken_on s t (enters (seen_card s.b) (turned (idle s) s.b.epoch (seen_guest s.b.guest) inbox w)) (pick b Following Failover) (drop_epoch s.b.epoch inbox) None
      (ended (seen s) w Following) verdict _
      (enters-laid _ _ (ap (λ (g : Guest). turned_in s.b.epoch g inbox w) again ∙ laid-turned s.b.epoch (seen_guest s.b.guest) inbox w (b-fits s t) ints_used)) _ refl
    where
      verdict : ended (seen s) w Following ≡ taken (on_b (seen s) (enters (seen_card s.b) (turned (idle s) s.b.epoch (seen_guest s.b.guest) inbox w)) (pick b Following Failover) (drop_epoch s.b.epoch inbox)) None
      verdict = unfold ended refuse seen seen_card in rw (h, d)

  -- P5, and P7
  pub following_hears : has_end (next_epoch s.b.epoch) inbox ≡ true
      → done (on_b s (enters_in s.b (turned_in s.b.epoch s.b.guest inbox w)) Following (padded 128 zero_message (drop_epoch s.b.epoch inbox))) None ≡ outcome s (stored (ended (seen s) w Following))
  following_hears h = following_goes true h refl

  pub following_fails : has_end (next_epoch s.b.epoch) inbox ≡ false → s.detected ≡ true
      → done (on_b s (enters_in s.b (turned_in s.b.epoch s.b.guest inbox w)) Failover (padded 128 zero_message (drop_epoch s.b.epoch inbox))) None ≡ outcome s (stored (ended (seen s) w Following))
  following_fails h d = following_goes false h (rw d)

  pub failover_goes : done (on_b s (enters_in s.b (turned_last_in s.b.epoch s.b.guest inbox w)) Promoted (padded 128 zero_message (drop_epoch s.b.epoch inbox))) None ≡ outcome s (stored (ended (seen s) w Failover))
  unfolding ended seen seen_card
  failover_goes =
      taken_on s t _ Promoted _ None (ended (seen s) w Failover) refl _
      (enters-laid _ _ (ap (λ (g : Guest). turned_last_in s.b.epoch g inbox w) again ∙ laid-turned_last s.b.epoch (seen_guest s.b.guest) inbox w (b-fits s t) ints_used)) _ refl

  pub promoted_goes : done (on_b s (enters_in s.b (boundary_in (entries used_interrupt s.b.buffer) w s.b.guest)) Promoted s.inbox) None ≡ outcome s (stored (ended (seen s) w Promoted))
  unfolding ended seen seen_card
  promoted_goes =
      taken_on s t _ Promoted _ None (ended (seen s) w Promoted) refl _
      (enters-laid _ _ (ap (boundary_in (entries used_interrupt s.b.buffer) w) again ∙ laid-boundary (entries used_interrupt s.b.buffer) w (seen_guest s.b.guest) (b-fits s t) (entries-all used_interrupt s.b.buffer))) _ (inbox-same s t)

-- ---- the column

module _ (s : Pair) (w : ℕ) where
  pub bend_early_lem : not (idle s) && not (complete s.limit s.b.guest) ≡ true → outcome s (refused OutOfTurn) ≡ does [] s (BEnd w)
  unfolding handle refuse seen seen_card seen_guest setup_of complete
  bend_early_lem h = does-refused [] s (BEnd w) OutOfTurn (rw h)

  module _ (ready : not (idle s) && not (complete s.limit s.b.guest) ≡ false) where
    pub bend_used_up_lem : eqb s.b.epoch.0 65535 ≡ true → outcome s (refused EpochsUsedUp) ≡ does [] s (BEnd w)
    unfolding handle refuse seen seen_card seen_guest setup_of complete
    bend_used_up_lem h = does-refused [] s (BEnd w) EpochsUsedUp (rw (ready, h))

    pub bend_by_role : eqb s.b.epoch.0 65535 ≡ false → (o : Role) → s.role ≡ o → outcome s (stored (ended (seen s) w o)) ≡ does [] s (BEnd w)
    unfolding handle refuse seen seen_card seen_guest setup_of complete
    bend_by_role h o e = ap (λ (v : Verdict). outcome s (stored v)) (rw (ready, h, e))

-- ---- what the check may use of these, for each function

pub ruleset of_end_following = (following_hears, following_fails, following_waits)

pub ruleset of_b_end = (bend_early_lem, bend_used_up_lem, bend_by_role)
