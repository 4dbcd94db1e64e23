-- Sound, of a guest without its free slots. That a number is at most 65,535 is said by its type.
use Rattle.std.specs.Prelude.{Bool, true, ◌&&◌, ◌||◌, List, [], ◌∷◌, ℕ, ◌+◌, length, leb, ltb, eqb}
use Rattle.slots.specs.Slots.{pick, every, count}
use Rattle.rules.specs.declared.OpNo.{OpNo}
use Rattle.rules.specs.declared.Interrupt.{Interrupt}
use Rattle.rules.specs.declared.Guest.{Guest}
use Rattle.rules.specs.Instruction.{is_timer, is_device}

-- "status 1 or 2, .. data 0 for status 2"
unfoldable pub says : Interrupt → Bool
says i = eqb i.status 1 || (eqb i.status 2 && eqb i.word 0)

-- and "operation 1 to 65,535"
unfoldable pub proper : Interrupt → Bool
proper i = says i && leb 1 i.op.0

-- "queue statuses 1 to 3, .. device entries with operation 1 to 65,535, uncertain data 0, .. timer entry (operation 0)"
unfoldable pub sound_entry : Interrupt → Bool
sound_entry i = pick (is_timer i) (eqb i.op.0 0) (proper i)

-- "table ascending", from above n, "and ≤ the last number"
unfoldable pub ascending : ℕ → ℕ → List OpNo → Bool
ascending n last [] = true
ascending n last (o ∷ os) = ltb n o.0 && leb o.0 last && ascending o.0 last os

-- under N and L: "deadline 0 unless armed; .. pc < N; instructions ≤ L; TIMEs ≤ 40 and ≤ instructions;
-- .. table ascending and ≤ the last number; .. at most one timer entry ..; table plus device entries ≤ 16"
unfoldable pub sound_guest : ℕ → ℕ → Guest → Bool
sound_guest n l g =
    (g.armed || eqb g.deadline 0)
    && ltb g.pc n
    && leb g.done l
    && leb g.times 40
    && leb g.times g.done
    && ascending 0 g.last.0 g.table
    && every sound_entry g.queue
    && leb (count is_timer g.queue) 1
    && leb (length g.table + count is_device g.queue) 16
