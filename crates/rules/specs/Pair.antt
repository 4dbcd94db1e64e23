-- The pair: its phases, and what the events change in it. Its lists are plain here: their free slots are left out (PairSlots).
use Rattle.std.specs.Prelude.{Bool, true, false, not, ◌&&◌, List, [], ◌∷◌, ◌++◌, ℕ, suc, pred, eqb}
use Rattle.rules.specs.declared.OpNo.{OpNo}
use Rattle.rules.specs.declared.Interrupt.{Interrupt}
use Rattle.rules.specs.declared.Guest.{Guest}
use Rattle.rules.specs.declared.EpochNo.{EpochNo}
use Rattle.rules.specs.declared.Message.{Message}
use Rattle.rules.specs.declared.Phase.{Phase}
use Rattle.rules.specs.declared.Phase.TheVariants.{Running, Waiting, Failed}
use Rattle.rules.specs.declared.Role.{Role}
use Rattle.rules.specs.declared.Role.TheVariants.{Following, Failover, Promoted}
use Rattle.rules.specs.declared.Card.{Card}
use Rattle.rules.specs.declared.Pair.{Pair}
use Rattle.rules.specs.Guest.{fresh, listed, ops_of}
use Rattle.rules.specs.Program.{Setup}

-- "P phase (1 running, 2 waiting, 3 failed)"
unfoldable pub is_failed : Phase → Bool
is_failed Running = false
is_failed (Waiting c) = false
is_failed Failed = true

unfoldable pub is_waiting : Phase → Bool
is_waiting Running = false
is_waiting (Waiting c) = true
is_waiting Failed = false

-- "clock sent 0 unless waiting"
unfoldable pub clock_sent : Phase → ℕ
clock_sent Running = 0
clock_sent (Waiting c) = c
clock_sent Failed = 0

-- "B phase (1 following, 2 failover, 3 promoted)"
unfoldable pub is_following : Role → Bool
is_following Following = true
is_following Failover = false
is_following Promoted = false

unfoldable pub is_promoted : Role → Bool
is_promoted Following = false
is_promoted Failover = false
is_promoted Promoted = true

-- the number of the next epoch
abbrev pub next_epoch : EpochNo → EpochNo
next_epoch e = record { 0 = suc e.0 }

-- B has entered no epoch yet: "epoch 0"
abbrev pub idle : Pair → Bool
idle s = eqb s.b.epoch.0 0

-- not "not in P's table or already buffered"
unfoldable pub awaited : Card → OpNo → Bool
awaited c n = listed n c.guest.table && not (listed n (ops_of c.buffer))

-- the pair with one part changed
abbrev pub with_p : Pair → Card → Pair
with_p s c = record { p = c; phase = s.phase; b = s.b; role = s.role; detected = s.detected; limit = s.limit; count = s.count; link = s.link; acks = s.acks; inbox = s.inbox }

abbrev pub with_phase : Pair → Phase → Pair
with_phase s f = record { p = s.p; phase = f; b = s.b; role = s.role; detected = s.detected; limit = s.limit; count = s.count; link = s.link; acks = s.acks; inbox = s.inbox }

abbrev pub with_b : Pair → Card → Pair
with_b s c = record { p = s.p; phase = s.phase; b = c; role = s.role; detected = s.detected; limit = s.limit; count = s.count; link = s.link; acks = s.acks; inbox = s.inbox }

abbrev pub with_role : Pair → Role → Pair
with_role s o = record { p = s.p; phase = s.phase; b = s.b; role = o; detected = s.detected; limit = s.limit; count = s.count; link = s.link; acks = s.acks; inbox = s.inbox }

abbrev pub with_detected : Pair → Bool → Pair
with_detected s d = record { p = s.p; phase = s.phase; b = s.b; role = s.role; detected = d; limit = s.limit; count = s.count; link = s.link; acks = s.acks; inbox = s.inbox }

abbrev pub with_limit : Pair → ℕ → Pair
with_limit s l = record { p = s.p; phase = s.phase; b = s.b; role = s.role; detected = s.detected; limit = l; count = s.count; link = s.link; acks = s.acks; inbox = s.inbox }

abbrev pub with_count : Pair → ℕ → Pair
with_count s n = record { p = s.p; phase = s.phase; b = s.b; role = s.role; detected = s.detected; limit = s.limit; count = n; link = s.link; acks = s.acks; inbox = s.inbox }

abbrev pub with_link : Pair → List Message → Pair
with_link s ms = record { p = s.p; phase = s.phase; b = s.b; role = s.role; detected = s.detected; limit = s.limit; count = s.count; link = ms; acks = s.acks; inbox = s.inbox }

abbrev pub with_acks : Pair → ℕ → Pair
with_acks s n = record { p = s.p; phase = s.phase; b = s.b; role = s.role; detected = s.detected; limit = s.limit; count = s.count; link = s.link; acks = n; inbox = s.inbox }

abbrev pub with_inbox : Pair → List Message → Pair
with_inbox s ms = record { p = s.p; phase = s.phase; b = s.b; role = s.role; detected = s.detected; limit = s.limit; count = s.count; link = s.link; acks = s.acks; inbox = ms }

-- the card with another guest; with one more interrupt buffered; in its next epoch
unfoldable pub ran_on : Card → Guest → Card
ran_on c g = record { guest = g; epoch = c.epoch; buffer = c.buffer }

unfoldable pub buffers : Card → Interrupt → Card
buffers c i = record { guest = c.guest; epoch = c.epoch; buffer = c.buffer ++ (i ∷ []) }

unfoldable pub enters : Card → Guest → Card
enters c g = record { guest = g; epoch = next_epoch c.epoch; buffer = [] }

-- the pair with another first card and phase, and messages sent; with another second card, role and inbox
unfoldable pub on_p : Pair → Card → Phase → List Message → Pair
on_p s c f ms = with_link (with_phase (with_p s c) f) (s.link ++ ms)

unfoldable pub on_b : Pair → Card → Role → List Message → Pair
on_b s c o ms = with_inbox (with_role (with_b s c) o) ms

-- "oldest message moves to B's inbox .., acknowledgement sets out"
unfoldable pub received : Pair → Message → List Message → Pair
received s m ms = with_inbox (with_acks (with_link s ms) (suc s.acks)) (s.inbox ++ (m ∷ []))

-- "P receives one acknowledgement"
unfoldable pub acknowledged : Pair → Pair
acknowledged s = with_acks s (pred s.acks)

-- "P halts for good, clock sent becomes 0"
unfoldable pub halted : Pair → Pair
halted s = with_phase s Failed

-- "B learns of it"
unfoldable pub noticed : Pair → Pair
noticed s = with_detected s true

-- the program's bytes, with the pair's own N and L
unfoldable pub setup_of : List ℕ → Pair → Setup
setup_of code s = record { code = code; count = s.count; limit = s.limit }

-- "P starts in epoch 1, B in epoch 0, following"
unfoldable pub fresh_pair : Setup → Pair
fresh_pair S =
    record {
      p = record { guest = fresh; epoch = record { 0 = 1 }; buffer = [] };
      phase = Running;
      b = record { guest = fresh; epoch = record { 0 = 0 }; buffer = [] };
      role = Following;
      detected = false;
      limit = S.limit;
      count = S.count;
      link = [];
      acks = 0;
      inbox = [];
    }
