-- An event that is taken: from the rule's verdict, and what changes in memory, to the outcome.
use mathlib.Core.Bool.{false}
use mathlib.Core.List.{List, [], ◌∷◌}
use mathlib.Core.Path.{◌∙◌, ◌≡◌, ap, refl, sym}
use Prim.Native.Nat.{ℕ}
use Rattle.outcomes.specs.Made.{done}
use Rattle.rules.proofs.PairSlots.{Fits}
use Rattle.rules.specs.Events.{Verdict, handle, malformed, taken}
use Rattle.rules.specs.Pair.{on_b, on_p, setup_of}
use Rattle.rules.specs.PairSlots.{laid_card, outcome, seen, stored, used_message, zero_message}
use Rattle.rules.specs.declared.Card.{Card}
use Rattle.rules.specs.declared.Event.{Event}
use Rattle.rules.specs.declared.Message.{Message}
use Rattle.rules.specs.declared.Pair.{Pair}
use Rattle.rules.specs.declared.Phase.{Phase}
use Rattle.rules.specs.declared.Role.{Role}
use Rattle.slots.specs.Slots.{padded, pushed}
use Rattle.tidy.proofs.Goes.{does-taken, goes-b, goes-p, link_more, link-same, next_fits, room-link}
use Rattle.tidy.specs.Tidy.{Tidy, does}
use Rattle.rules.specs.declared.RecordEntry.{RecordEntry}
use Rattle.std.specs.Prelude.{Option}

-- the pair in memory with another first card and phase, and another link
abbrev pub pair_p : Pair → Card → Phase → List Message → Pair
pair_p s c f k = record { p = c; phase = f; b = s.b; role = s.role; detected = s.detected; limit = s.limit; count = s.count; link = k; acks = s.acks; inbox = s.inbox }

-- ---- an event of P's, with one message or none

module _ (code : List ℕ) (s : Pair) (t : Tidy s) (ev : Event) (formed : malformed ev ≡ false) (c : Card) (f : Phase) (o : Option RecordEntry) where
  pub taken_sending : (m : Message) → handle (setup_of code s) (seen s) ev ≡ taken (on_p (seen s) c f (m ∷ [])) o → (c' : Card) → (Fits (on_p (seen s) c f (m ∷ [])) → c' ≡ laid_card c)
      → done (pair_p s c' f (pushed used_message s.link m)) o ≡ does code s ev
  unfolding on_p seen
  taken_sending m e c' card =
      let fits = next_fits s t code ev (on_p (seen s) c f (m ∷ [])) o formed e in
      does-taken code s ev (on_p (seen s) c f (m ∷ [])) o _ e
      (goes-p s t c' c f (m ∷ []) _ (card fits) (link_more s t m (room-link s t (on_p (seen s) c f (m ∷ [])) m fits refl)))

  pub taken_silent : handle (setup_of code s) (seen s) ev ≡ taken (on_p (seen s) c f []) o → (c' : Card) → c' ≡ laid_card c → done (pair_p s c' f s.link) o ≡ does code s ev
  taken_silent e c' card = does-taken code s ev (on_p (seen s) c f []) o _ e (goes-p s t c' c f [] _ card (link-same s t))

-- ---- an event of B's: another second card, role and inbox

module _ (s : Pair) (t : Tidy s) (c : Card) (o : Role) (ms : List Message) (shown : Option RecordEntry) where
  -- from the rule's verdict, and the card and the inbox in memory
  pub taken_on : (v : Verdict) → v ≡ taken (on_b (seen s) c o ms) shown → (c' : Card) → c' ≡ laid_card c → (k : List Message) → k ≡ padded 128 zero_message ms
      → done (on_b s c' o k) shown ≡ outcome s (stored v)
  unfolding stored outcome on_b
  taken_on v e c' card k inbox = ap (λ (u : Pair). done u shown) (goes-b s t c' c o ms k card inbox) ∙ sym (ap (λ (x : Verdict). outcome s (stored x)) e)
