-- What PSTEP and PINT come to on a sound pair: refused by their column, or taken.
use mathlib.Core.Bool.{Bool, ◌||◌, false, not, true}
use mathlib.Core.List.{List, [], ◌∷◌}
use mathlib.Core.Path.{◌∙◌, ◌≡◌, ap, refl}
use Prim.Native.Nat.{◌<◌, ℕ}
use lib.ListN.{length, length-append}
use native.Mathlib.Omega.{arith}
use Rattle.guest.proofs.Laid.{laid-instruction}
use Rattle.guest.specs.InSlots.{instruction_in}
use Rattle.tidy.proofs.Goes.{awaited_is, buffer-again, buffer_more, does-refused, guest-again, p-again, p-fits}
use Rattle.outcomes.specs.Made.{done}
use Rattle.tidy.specs.Tidy.{Tidy, does}
use Rattle.rules.proofs.PairSlots.{Fits}
use Rattle.rules.specs.Decode.{fetch, instr_of, is_bad}
use Rattle.rules.specs.Events.{handle, malformed, refuse, refused, sends, taken}
use Rattle.rules.specs.Guest.{listed, ops_of}
use Rattle.rules.specs.GuestSlots.{laid_ran, seen_guest, used_interrupt, used_op}
use Rattle.rules.specs.GuestSound.{proper}
use Rattle.rules.specs.Instruction.{complete, is_time, next, perform}
use Rattle.rules.specs.Messages.{int, val}
use Rattle.rules.specs.Pair.{buffers, is_failed, on_p, ran_on, setup_of}
use Rattle.rules.specs.PairSlots.{laid_card, outcome, seen, seen_card, used_message}
use Rattle.rules.specs.Program.{at_time, bad, exec, instr}
use Rattle.rules.specs.declared.Event.TheVariants.{PInt, PStep}
use Rattle.rules.specs.declared.Instr.{Instr}
use Rattle.rules.specs.declared.Interrupt.{Interrupt}
use Rattle.rules.specs.declared.Pair.{Pair}
use Rattle.rules.specs.declared.Ran.{Ran}
use Rattle.rules.specs.declared.Refusal.TheVariants.{BadProgram, Dead, OutOfTurn, UnknownOperation}
use Rattle.slots.specs.Slots.{entries, pick, pushed}
use Rattle.tidy.proofs.Taken.{pair_p, taken_sending, taken_silent}
use Rattle.std.specs.Prelude.{Some, None}

-- P has failed: 2
module _ (code : List ℕ) (s : Pair) (failed : is_failed s.phase ≡ true) where
  pub pstep_dead_lem : (w : ℕ) → outcome s (refused Dead) ≡ does code s (PStep w)
  unfolding handle refuse seen
  pstep_dead_lem w = does-refused code s (PStep w) Dead (rw failed)

  pub pint_dead_lem : (i : Interrupt) → outcome s (refused Dead) ≡ does code s (PInt i)
  unfolding handle refuse seen
  pint_dead_lem i = does-refused code s (PInt i) Dead (rw failed)

module _ (code : List ℕ) (s : Pair) (alive : is_failed s.phase ≡ false) where
  -- ---- PINT

  -- "not in P's table or already buffered"
  abbrev unknown : Interrupt → Bool
  unknown i = not (listed i.op (entries used_op s.p.guest.table)) || listed i.op (ops_of (entries used_interrupt s.p.buffer))

  pub pint_unknown_lem : (i : Interrupt) → unknown i ≡ true → outcome s (refused UnknownOperation) ≡ does code s (PInt i)
  unfolding handle refuse seen
  pint_unknown_lem i a = does-refused code s (PInt i) UnknownOperation (rw (alive, awaited_is s.p i.op ∙ a))

  pint_verdict : (i : Interrupt) → unknown i ≡ false
      → handle (setup_of code s) (seen s) (PInt i) ≡ taken (on_p (seen s) (buffers (seen_card s.p) i) s.phase (int s.p.epoch i ∷ [])) None
  unfolding handle refuse seen seen_card
  pint_verdict i a = rw (alive, awaited_is s.p i.op ∙ a)

  pint-formed : (i : Interrupt) → proper i ≡ true → malformed (PInt i) ≡ false
  unfolding malformed
  pint-formed i p = rw p

  pint_card : Tidy s → (i : Interrupt) → Fits (on_p (seen s) (buffers (seen_card s.p) i) s.phase (int s.p.epoch i ∷ []))
      → record { guest = s.p.guest; epoch = s.p.epoch; buffer = pushed used_interrupt s.p.buffer i } ≡ laid_card (buffers (seen_card s.p) i)
  unfolding on_p laid_card buffers seen_card
  pint_card t i fits =
      let a = fits.p.room in
      let b = length-append (entries used_interrupt s.p.buffer) (i ∷ []) in
      let h : length (entries used_interrupt s.p.buffer) < 16 = omega arith in
      λ k. record { guest = guest-again s.p (p-again s t) k; epoch = s.p.epoch; buffer = buffer_more s.p (p-again s t) i h k }

  pub pint_taken : Tidy s → (i : Interrupt) → proper i ≡ true → unknown i ≡ false
      → done (pair_p s (record { guest = s.p.guest; epoch = s.p.epoch; buffer = pushed used_interrupt s.p.buffer i }) s.phase (pushed used_message s.link (int s.p.epoch i))) None
      ≡ does code s (PInt i)
  pint_taken t i p a = taken_sending code s t (PInt i) (pint-formed i p) (buffers (seen_card s.p) i) s.phase None (int s.p.epoch i) (pint_verdict i a) _ (pint_card t i)

-- ---- PSTEP

module _ (code : List ℕ) (s : Pair) (w : ℕ) (alive : is_failed s.phase ≡ false) where
  pub pstep_done_lem : complete s.limit s.p.guest ≡ true → outcome s (refused OutOfTurn) ≡ does code s (PStep w)
  unfolding handle refuse seen seen_card seen_guest setup_of complete
  pstep_done_lem a = does-refused code s (PStep w) OutOfTurn (rw (alive, a))

  module _ (going : complete s.limit s.p.guest ≡ false) where
    pub pstep_bad_lem : fetch code s.count s.p.guest.pc ≡ None → outcome s (refused BadProgram) ≡ does code s (PStep w)
    unfolding handle refuse seen seen_card seen_guest setup_of complete bad is_bad
    pstep_bad_lem e = does-refused code s (PStep w) BadProgram (rw (alive, going, e))

    module _ (i : Instr) (found : fetch code s.count s.p.guest.pc ≡ Some i) where
      -- what the instruction leaves, on the model
      abbrev ran : Ran
      ran = perform i (seen_guest s.p.guest) (next s.count s.p.guest) w

      pstep_verdict : handle (setup_of code s) (seen s) (PStep w) ≡ taken (on_p (seen s) (ran_on (seen_card s.p) ran.guest) s.phase (pick (is_time i) (val s.p.epoch w ∷ []) [])) ran.shown
      unfolding handle refuse seen seen_card seen_guest setup_of complete bad is_bad sends at_time instr instr_of exec next
      pstep_verdict = rw (alive, going, found)

      pstep-formed : malformed (PStep w) ≡ false
      unfolding malformed
      pstep-formed = refl

      -- the same on the arrays
      abbrev ran_in : Ran
      ran_in = instruction_in i s.p.guest s.count s.limit w

      pstep-ran : (t : Tidy s) → ran_in ≡ laid_ran ran
      pstep-ran t = laid-instruction i s.p.guest s.count s.limit w (guest-again s.p (p-again s t)) (p-fits s t) going

      pstep_card : (t : Tidy s) → record { guest = ran_in.guest; epoch = s.p.epoch; buffer = s.p.buffer } ≡ laid_card (ran_on (seen_card s.p) ran.guest)
      unfolding laid_card ran_on seen_card laid_ran
      pstep_card t =
          λ k. record { guest = (pstep-ran t k).guest; epoch = s.p.epoch; buffer = buffer-again s.p (p-again s t) k }

      same-shown : (t : Tidy s) → ran_in.shown ≡ ran.shown
      unfolding laid_ran
      same-shown t = ap (λ (r : Ran). r.shown) (pstep-ran t)

      -- the pair after it: TIME sends its Val, nothing else is sent (P0)
      pub pstep_taken : (t : Tidy s)
          → done (pair_p s (record { guest = ran_in.guest; epoch = s.p.epoch; buffer = s.p.buffer }) s.phase (pick (is_time i) (pushed used_message s.link (val s.p.epoch w)) s.link)) ran_in.shown ≡ does code s (PStep w)
      pstep_taken t = go (is_time i) pstep_verdict
        where
          go : (b : Bool) → handle (setup_of code s) (seen s) (PStep w) ≡ taken (on_p (seen s) (ran_on (seen_card s.p) ran.guest) s.phase (pick b (val s.p.epoch w ∷ []) [])) ran.shown
              → done (pair_p s (record { guest = ran_in.guest; epoch = s.p.epoch; buffer = s.p.buffer }) s.phase (pick b (pushed used_message s.link (val s.p.epoch w)) s.link)) ran_in.shown ≡ does code s (PStep w)
          go true v = rw (same-shown t) (taken_sending code s t (PStep w) pstep-formed (ran_on (seen_card s.p) ran.guest) s.phase ran.shown (val s.p.epoch w) v _ (λ _. pstep_card t))
          go false v = rw (same-shown t) (taken_silent code s t (PStep w) pstep-formed (ran_on (seen_card s.p) ran.guest) s.phase ran.shown v _ (pstep_card t))

-- ---- what the check may use of these, for each function

pub ruleset of_p_int = (pint_dead_lem, pint_unknown_lem, pint_taken)

pub ruleset of_p_step = (pstep_dead_lem, pstep_done_lem, pstep_bad_lem)
