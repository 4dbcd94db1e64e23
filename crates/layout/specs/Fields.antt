-- The parts of an image, each field once and in 01's order ("Stored forms"). A layout gives the fields as they are stored, then how the
-- thing is made of them, then what each of them is.
use Rattle.std.specs.Prelude.{Bool, ◌&&◌, ◌||◌, ℕ, eqb, leb}
use Rattle.slots.specs.Slots.{pick}
use Rattle.forms.specs.Stored.{Stored, byte, half, word, always, ◌then◌, array, stored_as, any, flag}
use Rattle.rules.specs.declared.OpNo.{OpNo}
use Rattle.rules.specs.declared.EpochNo.{EpochNo}
use Rattle.rules.specs.declared.Interrupt.{Interrupt}
use Rattle.rules.specs.declared.Message.{Message}
use Rattle.rules.specs.declared.Guest.{Guest}
use Rattle.rules.specs.declared.Phase.{Phase}
use Rattle.rules.specs.declared.Phase.TheVariants.{Running, Waiting, Failed}
use Rattle.rules.specs.declared.Role.{Role}
use Rattle.rules.specs.declared.Role.TheVariants.{Following, Failover, Promoted}

-- an operation number, and an epoch number
abbrev pub operation : Stored OpNo
operation = stored_as half (λ n. record { 0 = n }) (λ o. o.0) any

-- an epoch number
abbrev pub epoch : Stored EpochNo
epoch = stored_as half (λ n. record { 0 = n }) (λ e. e.0) any

-- "status, 0, operation 2, data 4"
abbrev pub interrupt : Stored Interrupt
interrupt =
    stored_as (byte then always byte 0 then operation then word)
    (λ t. record { status = t.0.0.0; op = t.0.1; word = t.1 })
    (λ i. (((i.status, tt), i.op), i.word))
    any

-- "kind (1 Val, 2 Int, 3 Tme, 4 end), status, epoch 2, operation 2, zero 2, word 4"
abbrev pub message : Stored Message
message =
    stored_as (byte then byte then epoch then operation then always half 0 then word)
    (λ t. record { kind = t.0.0.0.0.0; status = t.0.0.0.0.1; epoch = t.0.0.0.1; op = t.0.0.1; word = t.1 })
    (λ m. (((((m.kind, m.status), m.epoch), m.op), tt), m.word))
    any

-- "pc 2, instructions 2, TIMEs 1, armed 1, last number 2, deadline 4": the numbers at the front of a guest
abbrev pub Front : Type 0
Front = ((((ℕ × ℕ) × ℕ) × Bool) × OpNo) × ℕ

-- where they stand
abbrev pub front : Stored Front
front = half then half then byte then flag then operation then word

-- a guest's
abbrev pub front_of : Guest → Front
front_of g = (((((g.pc, g.done), g.times), g.armed), g.last), g.deadline)

-- and then "registers 32, memory 256, table 16×2, queue 17×8"
abbrev pub guest : Stored Guest
guest =
    stored_as (front then array 8 word then array 64 word then array 16 operation then array 17 interrupt)
    (λ t. let f = t.0.0.0.0 in record {
      pc = f.0.0.0.0.0;
      done = f.0.0.0.0.1;
      times = f.0.0.0.1;
      armed = f.0.0.1;
      last = f.0.1;
      deadline = f.1;
      regs = t.0.0.0.1;
      mem = t.0.0.1;
      table = t.0.1;
      queue = t.1;
    })
    (λ g. ((((front_of g, g.regs), g.mem), g.table), g.queue))
    any

-- "P phase (1 running, 2 waiting, 3 failed)"; "the clock sent" is kept while waiting, and 0 otherwise
unfoldable pub phase_number : Phase → ℕ
phase_number Running = 1
phase_number (Waiting c) = 2
phase_number Failed = 3

-- the phase of a number and a clock sent
unfoldable pub phase_of : ℕ → ℕ → Phase
phase_of n c = pick (eqb n 2) (Waiting c) (pick (eqb n 3) Failed Running)

-- "phases .. in range; .. clock sent 0 unless waiting"
unfoldable pub phase_may : ℕ → ℕ → Bool
phase_may n c = leb 1 n && leb n 3 && (eqb n 2 || eqb c 0)

-- "B phase (1 following, 2 failover, 3 promoted)"
unfoldable pub role_number : Role → ℕ
role_number Following = 1
role_number Failover = 2
role_number Promoted = 3

-- the role of a number
unfoldable pub role_of : ℕ → Role
role_of n = pick (eqb n 2) Failover (pick (eqb n 3) Promoted Following)

-- the role as it is stored
abbrev pub role : Stored Role
role = stored_as byte role_of role_number (λ n. leb 1 n && leb n 3)
