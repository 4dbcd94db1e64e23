-- Sound, of the pair without its free slots. That phases and flags are in range, and a number is at most 65,535, is said by the types.
use Rattle.std.specs.Prelude.{Bool, true, not, ◌&&◌, ◌||◌, List, [], ◌∷◌, ℕ, ◌+◌, length, leb, eqb}
use Rattle.slots.specs.Slots.{pick, every}
use Rattle.rules.specs.declared.OpNo.{OpNo}
use Rattle.rules.specs.declared.Message.{Message}
use Rattle.rules.specs.declared.Phase.{Phase}
use Rattle.rules.specs.declared.Phase.TheVariants.{Running, Waiting, Failed}
use Rattle.rules.specs.declared.Card.{Card}
use Rattle.rules.specs.declared.Pair.{Pair}
use Rattle.rules.specs.Guest.{listed, ops_of}
use Rattle.rules.specs.Instruction.{complete}
use Rattle.rules.specs.GuestSound.{proper, sound_guest}
use Rattle.rules.specs.Messages.{interrupt_of}
use Rattle.rules.specs.Pair.{is_failed, is_waiting, is_following, is_promoted, idle}

-- no operation twice
unfoldable pub once : List OpNo → Bool
once [] = true
once (o ∷ os) = not (listed o os) && once os

-- "in buffers 1 or 2, ..; each buffered operation in its guest's table, once"
unfoldable pub sound_buffer : Card → Bool
sound_buffer c =
    every proper c.buffer
    && every (λ (o : OpNo). listed o c.guest.table) (ops_of c.buffer)
    && once (ops_of c.buffer)

-- "messages with kind 1 to 4, epoch 1 to 65,535, Ints as in PINT and unused fields 0"
unfoldable pub sound_message : Message → Bool
sound_message m =
    leb 1 m.epoch.0
    && pick (eqb m.kind 2) (proper (interrupt_of m))
    (eqb m.status 0 && eqb m.op.0 0 && (eqb m.kind 1 || eqb m.kind 3 || (eqb m.kind 4 && eqb m.word 0)))

-- "(1 if waiting or failed)"
unfoldable pub extra : Phase → ℕ
extra Running = 0
extra (Waiting c) = 1
extra Failed = 1

-- messages on the link plus acknowledgements in flight
abbrev pub unacknowledged : Pair → ℕ
unacknowledged s = length s.link + s.acks

-- "B's inbox (128)"; ".. ≤ 1 + P's TIMEs + P's buffered + (1 if waiting or failed), and 58"
unfoldable pub sound_wires : Pair → Bool
sound_wires s =
    every sound_message s.link
    && every sound_message s.inbox
    && leb (length s.inbox) 128
    && leb (unacknowledged s) (1 + s.p.guest.times + length s.p.buffer + extra s.phase)
    && leb (unacknowledged s) 58

-- "e_p 1 to 65,535; e_b 0 only while following and with no instructions done; waiting only when complete;
-- detected only when failed; failover and promoted only when detected; B's buffer empty unless promoted"
unfoldable pub sound_turns : Pair → Bool
sound_turns s =
    leb 1 s.p.epoch.0
    && (not (idle s) || (is_following s.role && eqb s.b.guest.done 0))
    && (not (is_waiting s.phase) || complete s.limit s.p.guest)
    && (not s.detected || is_failed s.phase)
    && (is_following s.role || s.detected)
    && (is_promoted s.role || eqb (length s.b.buffer) 0)

-- "L 1 to 4,096, N 1 to 1,024"
unfoldable pub sound_limits : Pair → Bool
sound_limits s = leb 1 s.limit && leb s.limit 4096 && leb 1 s.count && leb s.count 1024

-- "Sound": all of it
unfoldable pub sound : Pair → Bool
sound s =
    sound_limits s
    && sound_guest s.count s.limit s.p.guest
    && sound_guest s.count s.limit s.b.guest
    && sound_buffer s.p
    && sound_buffer s.b
    && sound_wires s
    && sound_turns s
