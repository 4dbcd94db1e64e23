-- The word that a clock is read from, in the rules' words.
use mathlib.Core.Bool.{Bool, false, true}
use mathlib.Core.List.{List, [], ◌∷◌}
use mathlib.Core.Path.{◌∙◌, ◌≡◌, ap, refl, sym}
use Prim.Native.Nat.{ℕ}
use Rattle.rules.specs.Messages.{first, gather, of_kind, only, place, tme_of, tmes, val_of, vals}
use Rattle.rules.specs.declared.EpochNo.{EpochNo}
use Rattle.rules.specs.declared.Message.{Message}
use Rattle.slots.specs.Slots.{pick}
use Rattle.inbox.specs.Words.{word_of}

-- the first that is found
found : (b : Bool) (x : ℕ) (l : List ℕ) (w : ℕ) → first (place (only b x) l) w ≡ pick b x (first l w)
unfolding first place only
found true x l w = refl
found false x l w = refl

pub word-val : (e : EpochNo) (ms : List Message) (w : ℕ) → word_of 1 e ms w ≡ first (vals e ms) w
unfolding word_of vals gather val_of
word-val e [] w = unfold first in refl
word-val e (m ∷ ms) w = ap (pick (of_kind 1 e m) m.word) (word-val e ms w) ∙ sym (found (of_kind 1 e m) m.word (vals e ms) w)

pub word-tme : (e : EpochNo) (ms : List Message) (w : ℕ) → word_of 3 e ms w ≡ first (tmes e ms) w
unfolding word_of tmes gather tme_of
word-tme e [] w = unfold first in refl
word-tme e (m ∷ ms) w = ap (pick (of_kind 3 e m) m.word) (word-tme e ms w) ∙ sym (found (of_kind 3 e m) m.word (tmes e ms) w)
