-- Runs over bytes are runs over the events that they say.
use mathlib.Core.Bool.{Bool, false, not, true}
use mathlib.Core.List.{List, [], ◌++◌, ◌∷◌}
use mathlib.Core.Path.{◌∙◌, ◌≡◌, ap, refl, sym}
use Prim.Native.Nat.{◌*◌, ℕ}
use lib.Dec.{eqb}
use lib.ListN.{get_or, length}
use Rattle.rules.specs.Bytes.{read_event, stepped}
use Rattle.rules.specs.Events.{Verdict, handle, in_front, kind, malformed, refuse, refused, set_up, taken}
use Rattle.rules.specs.Guest.{fresh}
use Rattle.rules.specs.GuestSlots.{laid_guest, seen_guest, tight_guest}
use Rattle.rules.specs.History.{History, after, feed_stored, fresh_history, fresh_stored, laid_history, noted, recorded, run, run_stored}
use Rattle.rules.specs.Messages.{only}
use Rattle.rules.specs.Pair.{fresh_pair, setup_of}
use Rattle.rules.specs.PairSlots.{apply, laid, laid_card, made, outcome, seen, seen_card, sound_pair, stored, tight_card, tight_pair, zero_pair}
use Rattle.rules.specs.Program.{Setup, good, under}
use Rattle.rules.specs.Sound.{sound, sound_limits}
use Rattle.rules.specs.declared.Event.{Event}
use Rattle.rules.specs.declared.Outcome.{Outcome}
use Rattle.rules.specs.declared.Refusal.{Refusal}
use Rattle.rules.specs.declared.Refusal.TheVariants.{BadProgram, Malformed, Unsound}
use Rattle.slots.specs.Slots.{entries, every, folded, padded}
use Rattle.promises.proofs.Bytes.{first_kind, stepped_ill, stepped_well}
use Rattle.promises.proofs.Faithful.{faithful}
use Rattle.promises.specs.Promises.{grown, is_taken, opened, ran}
use Rattle.std.specs.Prelude.{Some, None, Option, Ok, Err}

-- ---- one event

-- a refused event leaves the history as it is
grown-refused : (k : ℕ) (h : History) (why : Refusal) → grown k h (outcome h.pair (refused why)) ≡ h
unfolding grown outcome is_taken recorded noted only
grown-refused k h why = refl

grown-after : (k : ℕ) (h : History) (ev : Event) (v : Verdict) → kind ev ≡ k → grown k h (outcome h.pair v) ≡ after ev h v
unfolding after grown outcome is_taken recorded noted only
grown-after k h ev (refused why) q = refl
grown-after k h ev (taken t o) q = ap (λ (n : ℕ). record { pair = t; shown = recorded h.shown o; entered_p = noted h.entered_p (only (eqb n 4) t.p.guest); entered_b = noted h.entered_b (only (eqb n 10) t.b.guest) }) (sym q)

-- ---- the events that the bytes say; bytes that say none are passed over

heard_in : Option Event → List Event → List Event
heard_in (Some ev) evs = ev ∷ evs
heard_in None evs = evs

pub events_in : List (List ℕ) → List Event
events_in [] = []
events_in (bytes ∷ rest) = heard_in (read_event bytes) (events_in rest)

pub events_in_append : (evs more : List (List ℕ)) → events_in (evs ++ more) ≡ events_in evs ++ events_in more
unfolding events_in heard_in
events_in_append [] more = refl
events_in_append (bytes ∷ evs) more = go (read_event bytes) (events_in_append evs more)
  where
    go : (r : Option Event) → events_in (evs ++ more) ≡ events_in evs ++ events_in more → heard_in r (events_in (evs ++ more)) ≡ heard_in r (events_in evs) ++ events_in more
    go (Some ev) q = ap (λ (l : List Event). ev ∷ l) q
    go None q = q

module _ (S : Setup) where
  -- one after the other
  fed : History → List ℕ → History
  fed h bytes = grown (get_or bytes 0 0) h (stepped S.code h.pair bytes)

  fed_heard : (h : History) (bytes : List ℕ) (evs : List Event) → run_stored S (fed h bytes) evs ≡ run_stored S h (heard_in (read_event bytes) evs)
  unfolding fed heard_in run_stored feed_stored
  fed_heard h bytes evs = go (read_event bytes) refl
    where
      go : (r : Option Event) → read_event bytes ≡ r → run_stored S (grown (get_or bytes 0 0) h (stepped S.code h.pair bytes)) evs ≡ run_stored S h (heard_in r evs)
      go None q = ap (λ (x : History). run_stored S x evs) (ap (grown (get_or bytes 0 0) h) (stepped_ill S.code h.pair bytes q) ∙ grown-refused (get_or bytes 0 0) h Malformed)
      go (Some ev) q = ap (λ (x : History). run_stored S x evs) (ap (grown (get_or bytes 0 0) h) (stepped_well S.code h.pair bytes ev q) ∙ grown-after (get_or bytes 0 0) h ev (apply S.code h.pair ev) (first_kind bytes ev q))

  fed_all : (h : History) (evs : List (List ℕ)) → folded fed h evs ≡ run_stored S h (events_in evs)
  unfolding folded events_in run_stored
  fed_all h [] = refl
  fed_all h (bytes ∷ evs) = fed_all (fed h bytes) evs ∙ fed_heard h bytes (events_in evs)

-- ---- set-up

pub made-good : (S : Setup) → good S ≡ true → made S ≡ record { answer = Ok tt; pair = laid (fresh_pair S); shown = None }
unfolding made set_up refuse stored outcome
made-good S q = rw (q, refuse)

pub made-bad : (S : Setup) → good S ≡ false → made S ≡ record { answer = Err BadProgram; pair = zero_pair; shown = None }
unfolding made set_up refuse stored outcome
made-bad S q = rw (q, refuse)

opened-good : (code : List ℕ) (l : ℕ) → good (under code l) ≡ true → opened code l ≡ fresh_stored (under code l)
unfolding opened fresh_stored is_taken noted only fresh_pair laid laid_card
opened-good code l q = ap (λ (o : Outcome). record { pair = o.pair; shown = []; entered_p = noted [] (only (is_taken o.answer) o.pair.p.guest); entered_b = [] }) (made-good (under code l) q)

-- a run of a good program, on the model
pub ran-good : (code : List ℕ) (l : ℕ) (evs : List (List ℕ)) → good (under code l) ≡ true → ran code l evs ≡ laid_history (run (under code l) (fresh_history (under code l)) (events_in evs))
unfolding ran fed under
ran-good code l evs q = ap (λ (h : History). folded (fed (under code l)) h evs) (opened-good code l q) ∙ fed_all (under code l) (fresh_stored (under code l)) evs ∙ faithful (under code l) (events_in evs)

-- ---- where no pair is made every event is refused

pub zero-unsound : sound_pair zero_pair ≡ false
unfolding sound_pair tight_pair tight_card tight_guest zero_pair laid laid_card laid_guest seen sound sound_limits fresh padded entries every seen_card seen_guest
zero-unsound = refl

zero_refuses : (code : List ℕ) (ev : Event) (h : History) → h.pair ≡ zero_pair → (why : Refusal) × (apply code h.pair ev ≡ refused why)
unfolding apply in_front refuse
zero_refuses code ev h q = go (malformed ev)
  where
    unsound : sound_pair h.pair ≡ false
    unsound = ap sound_pair q ∙ zero-unsound

    go : (b : Bool) → (why : Refusal) × (refuse b Malformed (refuse (not (sound_pair h.pair)) Unsound (refuse (not (eqb (length code) (4 * h.pair.count))) BadProgram (stored (handle (setup_of code h.pair) (seen h.pair) ev)))) ≡ refused why)
    go true = (Malformed, refl)
    go false = (Unsound, rw unsound)

run-zero : (S : Setup) (h : History) → h.pair ≡ zero_pair → (evs : List Event) → run_stored S h evs ≡ h
unfolding run_stored feed_stored after
run-zero S h q [] = refl
run-zero S h q (ev ∷ evs) =
    let r = zero_refuses S.code ev h q in
    ap (λ (x : History). run_stored S x evs) (ap (after ev h) r.1) ∙ run-zero S h q evs

pub ran-bad : (code : List ℕ) (l : ℕ) (evs : List (List ℕ)) → good (under code l) ≡ false → ran code l evs ≡ record { pair = zero_pair; shown = []; entered_p = []; entered_b = [] }
unfolding ran fed under opened is_taken noted only
ran-bad code l evs q =
    ap (λ (h : History). folded (fed (under code l)) h evs) (ap (λ (o : Outcome). record { pair = o.pair; shown = []; entered_p = noted [] (only (is_taken o.answer) o.pair.p.guest); entered_b = [] }) (made-bad (under code l) q))
    ∙ fed_all (under code l) none-entered evs ∙ run-zero (under code l) none-entered refl (events_in evs)
  where
    none-entered : History
    none-entered = record { pair = zero_pair; shown = []; entered_p = []; entered_b = [] }
