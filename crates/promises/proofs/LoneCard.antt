-- What a lone card can come to, one step further.
use mathlib.Core.Bool.{Bool, ◌||◌, false, not, true}
use mathlib.Core.List.{List, [], ◌++◌, ◌∷◌, append_assoc}
use mathlib.Core.Path.{◌∙◌, ◌≡◌, ap, refl, sym}
use Prim.Native.Nat.{ℕ}
use lib.Dec.{eqb}
use Rattle.rules.specs.Boundary.{boundary}
use Rattle.rules.specs.Guest.{listed, ops_of}
use Rattle.rules.specs.GuestSound.{says}
use Rattle.rules.specs.History.{recorded}
use Rattle.rules.specs.Instruction.{complete}
use Rattle.rules.specs.Lone.{Lone, LoneStep, bound, fresh_lone, instruction, interrupt, is_shown, lone_step, lone_steps, may_run, may_tell, reached}
use Rattle.rules.specs.Messages.{only}
use Rattle.rules.specs.Program.{Setup, bad, exec}
use Rattle.rules.specs.declared.Guest.{Guest}
use Rattle.rules.specs.declared.Interrupt.{Interrupt}
use Rattle.rules.specs.declared.RecordEntry.{RecordEntry}
use Rattle.slots.specs.Slots.{pick}
use Rattle.std.specs.Prelude.{Option, Some, None}

only-true : {X : Type 0} (b : Bool) (x : X) → b ≡ true → only b x ≡ Some x
unfolding only
only-true b x h = rw (h, only)

abbrev pub lonely : Guest → List Interrupt → List RecordEntry → Lone
lonely g is es = record { guest = g; buffer = is; shown = es }

-- a lone card under S comes to c, by the steps `past` and then some more
abbrev pub Possible : Setup → List LoneStep → Lone → Type 0
Possible S past c = (more : List LoneStep) × (lone_steps S (Some fresh_lone) (past ++ more) ≡ Some c)

steps_append : (S : Setup) (o : Option Lone) (ss ts : List LoneStep) → lone_steps S o (ss ++ ts) ≡ lone_steps S (lone_steps S o ss) ts
unfolding lone_steps
steps_append S o [] ts = refl
steps_append S None (s ∷ ss) ts = sym (stuck ts)
  where
    stuck : (l : List LoneStep) → lone_steps S None l ≡ None
    stuck [] = refl
    stuck (s ∷ l) = refl
steps_append S (Some c) (s ∷ ss) ts = steps_append S (lone_step S c s) ss ts

module _ (S : Setup) (past : List LoneStep) (g : Guest) (buf : List Interrupt) (es : List RecordEntry) (p : Possible S past (lonely g buf es)) where
  possible-step : (d : Lone) (st : LoneStep) → lone_step S (lonely g buf es) st ≡ Some d → Possible S past d
  unfolding lone_steps
  possible-step d st e = (
    p.0 ++ (st ∷ []),
    ap (lone_steps S (Some fresh_lone)) (sym (append_assoc past p.0 (st ∷ []))) ∙ steps_append S (Some fresh_lone) (past ++ p.0) (st ∷ []) ∙ ap (λ (o : Option Lone). lone_steps S o (st ∷ [])) p.1 ∙ e,
  )

  -- an instruction; what is started reaches its device
  pub possible-shown : (w : ℕ) → complete S.limit g ≡ false → bad S g ≡ false → Possible S past (lonely (exec S g w).guest buf (recorded es (exec S g w).shown))
  unfolding lone_step may_run recorded is_shown
  possible-shown w h k =
      let o : Option RecordEntry = (exec S g w).shown in
      possible-step _ (instruction w (is_shown o))
      (only-true (may_run S g w (is_shown o)) _ (rw (h, k, not_or (is_shown o)))
      ∙ ap (λ (l : List RecordEntry). Some (lonely (exec S g w).guest buf l)) (recorded-shown o))
    where
      not_or : (b : Bool) → not b || b ≡ true
      not_or true = refl
      not_or false = refl

      recorded-shown : (o : Option RecordEntry) → pick (is_shown o) (recorded es o) es ≡ recorded es o
      recorded-shown None = refl
      recorded-shown (Some e) = refl

  -- an instruction; what is started does not reach its device
  pub possible-hidden : (w : ℕ) → complete S.limit g ≡ false → bad S g ≡ false → Possible S past (lonely (exec S g w).guest buf es)
  unfolding lone_step may_run
  possible-hidden w h k = possible-step _ (instruction w false) (only-true (may_run S g w false) _ (rw (h, k)))

  pub possible-bound : (w : ℕ) → complete S.limit g ≡ true → Possible S past (lonely (boundary buf w g) [] es)
  unfolding lone_step
  possible-bound w h = possible-step _ (bound w) (only-true (complete S.limit g) _ h)

  pub possible-interrupt : (i : Interrupt) → says i ≡ true → listed i.op g.table ≡ true → listed i.op (ops_of buf) ≡ false → eqb i.status 2 || reached i.op es ≡ true → Possible S past (lonely g (buf ++ (i ∷ [])) es)
  unfolding lone_step may_tell
  possible-interrupt i a b c d = possible-step _ (interrupt i) (only-true _ _ (rw (a, b, c, d)))
