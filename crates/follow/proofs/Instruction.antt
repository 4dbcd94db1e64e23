-- BSTEP on a sound pair: refused by its column, or one instruction.
use mathlib.Core.Bool.{Bool, ◌||◌, false, true}
use mathlib.Core.List.{List}
use mathlib.Core.Path.{◌∙◌, ◌≡◌, ap, refl}
use Prim.Native.Nat.{ℕ}
use Rattle.guest.proofs.Laid.{laid-instruction}
use Rattle.guest.specs.InSlots.{instruction_in}
use Rattle.inbox.proofs.Laws.{word-val}
use Rattle.inbox.specs.Words.{word_of}
use Rattle.tidy.proofs.Goes.{b-again, b-fits, buffer-again, does-refused, guest-again, inbox-same}
use Rattle.outcomes.specs.Made.{done}
use Rattle.tidy.specs.Tidy.{Tidy, does}
use Rattle.rules.specs.Decode.{fetch, instr_of, is_bad}
use Rattle.rules.specs.Events.{handle, refuse, refused, taken, unread}
use Rattle.rules.specs.GuestSlots.{laid_ran, seen_guest}
use Rattle.rules.specs.Instruction.{complete, is_time, next, perform}
use Rattle.rules.specs.Messages.{drop_val, first, vals}
use Rattle.rules.specs.Pair.{idle, is_promoted, on_b, ran_on, setup_of}
use Rattle.rules.specs.PairSlots.{laid_card, outcome, seen, seen_card, used_message, zero_message}
use Rattle.rules.specs.Program.{at_time, bad, exec, instr}
use Rattle.rules.specs.declared.Event.TheVariants.{BStep}
use Rattle.rules.specs.declared.Instr.{Instr}
use Rattle.rules.specs.declared.Message.{Message}
use Rattle.rules.specs.declared.Pair.{Pair}
use Rattle.rules.specs.declared.Ran.{Ran}
use Rattle.rules.specs.declared.Refusal.TheVariants.{BadProgram, OutOfTurn}
use Rattle.slots.proofs.Tests.{or_false}
use Rattle.slots.specs.Slots.{entries, padded, pick}
use Rattle.tidy.proofs.Taken.{taken_on}
use Rattle.rules.specs.declared.RecordEntry.{RecordEntry}
use Rattle.std.specs.Prelude.{Some, None, Option}

module _ (code : List ℕ) (s : Pair) (w : ℕ) where
  pub bstep_early : idle s || complete s.limit s.b.guest ≡ true → outcome s (refused OutOfTurn) ≡ does code s (BStep w)
  unfolding handle refuse seen seen_card seen_guest setup_of complete
  bstep_early h = does-refused code s (BStep w) OutOfTurn (rw h)

  module _ (going : idle s || complete s.limit s.b.guest ≡ false) where
    pub bstep_bad_lem : fetch code s.count s.b.guest.pc ≡ None → outcome s (refused BadProgram) ≡ does code s (BStep w)
    unfolding handle refuse seen seen_card seen_guest setup_of complete bad is_bad
    bstep_bad_lem e = does-refused code s (BStep w) BadProgram (rw (going, e))

    module _ (i : Instr) (found : fetch code s.count s.b.guest.pc ≡ Some i) where
      -- the messages in the inbox, and B's clock: "the first Val of B's epoch in the inbox .., else the word" (P6)
      abbrev inbox : List Message
      inbox = entries used_message s.inbox

      abbrev clock : ℕ
      clock = first (vals s.b.epoch inbox) w

      -- what the instruction leaves, on the model
      abbrev ran : Ran
      ran = perform i (seen_guest s.b.guest) (next s.count s.b.guest) clock

      bstep_verdict : handle (setup_of code s) (seen s) (BStep w)
          ≡ taken (on_b (seen s) (ran_on (seen_card s.b) ran.guest) s.role (pick (is_time i) (drop_val s.b.epoch inbox) inbox)) (pick (is_promoted s.role) ran.shown None)
      unfolding handle refuse seen seen_card seen_guest setup_of complete bad is_bad unread at_time instr instr_of exec next
      bstep_verdict = rw (going, found)

      module _ (t : Tidy s) where
        -- the same on the arrays, where TIME reads by the inbox's own search
        abbrev ran_in : Ran
        ran_in = instruction_in i s.b.guest s.count s.limit (word_of 1 s.b.epoch inbox w)

        ran-laid : ran_in ≡ laid_ran ran
        ran-laid =
            ap (instruction_in i s.b.guest s.count s.limit) (word-val s.b.epoch inbox w)
            ∙ laid-instruction i s.b.guest s.count s.limit clock (guest-again s.b (b-again s t)) (b-fits s t) (or_false (idle s) (complete s.limit s.b.guest) going).1

        card : ran_on s.b ran_in.guest ≡ laid_card (ran_on (seen_card s.b) ran.guest)
        unfolding ran_on laid_card seen_card laid_ran
        card = λ k. record { guest = (ran-laid k).guest; epoch = s.b.epoch; buffer = buffer-again s.b (b-again s t) k }

        rest : (b : Bool) → pick b (padded 128 zero_message (drop_val s.b.epoch inbox)) s.inbox ≡ padded 128 zero_message (pick b (drop_val s.b.epoch inbox) inbox)
        rest true = refl
        rest false = inbox-same s t

        shown : ran_in.shown ≡ ran.shown
        unfolding laid_ran
        shown = ap (λ (r : Ran). r.shown) ran-laid

        pub bstep_taken : done (on_b s (ran_on s.b ran_in.guest) s.role (pick (is_time i) (padded 128 zero_message (drop_val s.b.epoch inbox)) s.inbox)) (pick (is_promoted s.role) ran_in.shown None)
            ≡ does code s (BStep w)
        bstep_taken =
            ap (λ (o : Option RecordEntry). done (on_b s (ran_on s.b ran_in.guest) s.role (pick (is_time i) (padded 128 zero_message (drop_val s.b.epoch inbox)) s.inbox)) (pick (is_promoted s.role) o None)) shown
            ∙ taken_on s t (ran_on (seen_card s.b) ran.guest) s.role _ _ (handle (setup_of code s) (seen s) (BStep w)) bstep_verdict _ card _ (rest (is_time i))

-- ---- what the check may use of these, for each function

pub ruleset of_b_step = (bstep_early, bstep_bad_lem)
