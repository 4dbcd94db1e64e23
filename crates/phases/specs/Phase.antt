-- The pair with P in another phase.
use Rattle.rules.specs.declared.Pair.{Pair}
use Rattle.rules.specs.declared.Phase.{Phase}

abbrev pub in_phase : Pair → Phase → Pair
in_phase s f = record { p = s.p; phase = f; b = s.b; role = s.role; detected = s.detected; limit = s.limit; count = s.count; link = s.link; acks = s.acks; inbox = s.inbox }
