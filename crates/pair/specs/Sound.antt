-- Sound, of one card; and how much is out.
use Rattle.std.specs.Prelude.{Bool, ◌&&◌, List, ℕ, ◌+◌, length, leb}
use Rattle.rules.specs.Guest.{listed}
use Rattle.rules.specs.GuestSound.{sound_guest}
use Rattle.rules.specs.Sound.{sound_buffer, extra, unacknowledged}
use Rattle.rules.specs.declared.Card.{Card}
use Rattle.rules.specs.declared.Pair.{Pair}
use Rattle.rules.specs.declared.OpNo.{OpNo}
use Rattle.slots.specs.Slots.{every}

-- a card's part of 01's paragraph, without its free slots
abbrev pub sound_card : ℕ → ℕ → Card → Bool
sound_card n l c = sound_guest n l c.guest && sound_buffer c

-- each of the operations is in the table
abbrev pub all_tabled : List OpNo → List OpNo → Bool
all_tabled t os = every (λ (o : OpNo). listed o t) os

-- what is out is within its two bounds
abbrev pub few : Pair → Bool
few s = leb (unacknowledged s) (1 + s.p.guest.times + length s.p.buffer + extra s.phase) && leb (unacknowledged s) 58
