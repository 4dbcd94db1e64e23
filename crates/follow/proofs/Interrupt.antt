-- BINT on a sound pair: ignored before promotion, refused or buffered after it.
use mathlib.Core.Bool.{Bool, ◌||◌, false, not, true}
use mathlib.Core.List.{[], ◌∷◌}
use mathlib.Core.Path.{◌∙◌, ◌≡◌}
use Prim.Native.Nat.{◌<◌}
use lib.ListN.{length, length-append}
use native.Mathlib.Omega.{arith}
use Rattle.tidy.proofs.Goes.{awaited_is, b-again, buffer_more, does-refused, does-taken, guest-again, inbox-same, next_fits}
use Rattle.outcomes.specs.Made.{done}
use Rattle.tidy.specs.Tidy.{Tidy, does}
use Rattle.rules.proofs.PairSlots.{Fits}
use Rattle.rules.specs.Events.{handle, malformed, refuse, refused, taken}
use Rattle.rules.specs.Guest.{listed, ops_of}
use Rattle.rules.specs.GuestSlots.{used_interrupt, used_op}
use Rattle.rules.specs.GuestSound.{proper}
use Rattle.rules.specs.Pair.{buffers, is_promoted, on_b, setup_of}
use Rattle.rules.specs.PairSlots.{laid_card, outcome, seen, seen_card, used_message}
use Rattle.rules.specs.declared.Event.TheVariants.{BInt}
use Rattle.rules.specs.declared.Interrupt.{Interrupt}
use Rattle.rules.specs.declared.Pair.{Pair}
use Rattle.rules.specs.declared.Refusal.TheVariants.{UnknownOperation}
use Rattle.slots.specs.Slots.{entries, pushed}
use Rattle.tidy.proofs.Taken.{taken_on}
use Rattle.std.specs.Prelude.{None}

module _ (s : Pair) (i : Interrupt) where
  -- "not in its table or already buffered"
  abbrev unknown : Bool
  unknown = not (listed i.op (entries used_op s.b.guest.table)) || listed i.op (ops_of (entries used_interrupt s.b.buffer))

  -- "before promotion taken and ignored (P3)"
  pub bint_ignored : Tidy s → is_promoted s.role ≡ false → done s None ≡ does [] s (BInt i)
  bint_ignored t p = does-taken [] s (BInt i) (seen s) None s verdict t.again
    where
      verdict : handle (setup_of [] s) (seen s) (BInt i) ≡ taken (seen s) None
      verdict = unfold handle refuse seen in rw p

  module _ (promoted : is_promoted s.role ≡ true) where
    pub bint_unknown_lem : unknown ≡ true → outcome s (refused UnknownOperation) ≡ does [] s (BInt i)
    unfolding handle refuse seen
    bint_unknown_lem a = does-refused [] s (BInt i) UnknownOperation (rw (promoted, awaited_is s.b i.op ∙ a))

    module _ (a : unknown ≡ false) where
      -- the pair that is left, without its free slots
      abbrev left : Pair
      left = on_b (seen s) (buffers (seen_card s.b) i) s.role (entries used_message s.inbox)

      verdict : handle (setup_of [] s) (seen s) (BInt i) ≡ taken left None
      unfolding handle refuse seen
      verdict = rw (promoted, awaited_is s.b i.op ∙ a)

      formed : proper i ≡ true → malformed (BInt i) ≡ false
      unfolding malformed
      formed p = rw p

      card : Tidy s → Fits left → record { guest = s.b.guest; epoch = s.b.epoch; buffer = pushed used_interrupt s.b.buffer i } ≡ laid_card (buffers (seen_card s.b) i)
      unfolding on_b laid_card buffers seen_card
      card t fits =
          let r = fits.b.room in
          let l = length-append (entries used_interrupt s.b.buffer) (i ∷ []) in
          let h : length (entries used_interrupt s.b.buffer) < 16 = omega arith in
          λ k. record { guest = guest-again s.b (b-again s t) k; epoch = s.b.epoch; buffer = buffer_more s.b (b-again s t) i h k }

      pub bint_taken : Tidy s → proper i ≡ true
          → done (on_b s (record { guest = s.b.guest; epoch = s.b.epoch; buffer = pushed used_interrupt s.b.buffer i }) s.role s.inbox) None ≡ does [] s (BInt i)
      bint_taken t p =
          taken_on s t (buffers (seen_card s.b) i) s.role (entries used_message s.inbox) None (handle (setup_of [] s) (seen s) (BInt i)) verdict _
          (card t (next_fits s t [] (BInt i) left None (formed p) verdict)) _ (inbox-same s t)

-- ---- what the check may use of these, for each function

pub ruleset of_b_int = (bint_ignored, bint_unknown_lem, bint_taken)
