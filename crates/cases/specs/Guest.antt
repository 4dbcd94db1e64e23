-- The guest: each instruction, the boundary with a timer, and each rule of "Well formed".
use mathlib.Core.{Bool.{Bool, false, true}, List.{[], ◌++◌, ◌∷◌, List, map}, Path.◌≡◌}
use Rattle.std.specs.Prelude.{suc, zero, ℕ, get_or, length, replicate}
use Rattle.rules.specs.Boundary.{boundary, deliver, failover}
use Rattle.rules.specs.declared.Guest.{Guest}
use Rattle.rules.specs.declared.Instr.{Instr}
use Rattle.rules.specs.declared.Instr.TheVariants.{Add, Div, Jz, Load, Nop, SetTo, Start, Store, Sub, Take, Time, Timer}
use Rattle.rules.specs.declared.Interrupt.{Interrupt}
use Rattle.rules.specs.declared.OpNo.{OpNo}
use Rattle.rules.specs.Decode.{decode, is_bad}
use Rattle.rules.specs.Guest.{fresh, onward, reg, with_counts, with_last, with_table, with_timer}
use Rattle.rules.specs.Instruction.{complete, is_time, next, perform}
use Rattle.std.specs.Prelude.{Some, None}

abbrev pub status : ℕ → ℕ → ℕ → Interrupt
status s n w = record { status = s; op = record { 0 = n }; word = w }

-- r0 to r7 are 7, 0, 4294967295, 1, 0, 0, 0, 0; the operations 1 and 2 are out, and the timer is armed for 5
unfoldable pub busy : List Interrupt → Guest
busy q =
    record {
      pc = 4;
      done = 3;
      times = 1;
      armed = true;
      deadline = 5;
      regs = 7 ∷ 0 ∷ 4294967295 ∷ 1 ∷ 0 ∷ 0 ∷ 0 ∷ 0 ∷ [];
      mem = replicate 64 0;
      last = record { 0 = 2 };
      table = record { 0 = 1 } ∷ record { 0 = 2 } ∷ [];
      queue = q;
    }

-- a guest part by part: pc, instructions and TIMEs done; timer; registers and memory; last number, table and queue
abbrev pub whole : ℕ → ℕ → ℕ → Bool → ℕ → List ℕ → List ℕ → ℕ → List OpNo → List Interrupt → Guest
whole p d t a e rs ms n os q = record { pc = p; done = d; times = t; armed = a; deadline = e; regs = rs; mem = ms; last = record { 0 = n }; table = os; queue = q }

-- what is in r[x] after the instruction, with clock reading 9
unfoldable pub register : Instr → Guest → ℕ → ℕ
register i g x = reg (perform i g 5 9).guest x

-- n operations from 1 on
unfoldable pub up_to : ℕ → List OpNo
up_to zero = []
up_to (suc n) = up_to n ++ (record { 0 = suc n } ∷ [])

pub record Arithmetic : Type 0 where
  -- "7 / 0 gives 4,294,967,295. 4,294,967,295 + 1 gives 0."
  pub division : register (Div 4 0 1) (busy []) 4 ≡ 4294967295
  pub wraps : register (Add 4 2 3) (busy []) 4 ≡ 0
  pub added : register (Add 4 0 3) (busy []) 4 ≡ 8
  -- "modulo 2^32", below 0; "rounded down"; "256y + z"
  pub below : register (Sub 4 1 3) (busy []) 4 ≡ 4294967295
  pub rounded : register (Div 4 2 0) (busy []) 4 ≡ 613566756
  pub set : decode 1 3 2 1 9 ≡ Some (SetTo 3 513)
  -- "memory[r[y] mod 64] = r[x]": 4294967295 mod 64 is 63
  pub place : get_or (perform (Store 0 2) (busy []) 5 9).guest.mem 63 0 ≡ 7
  pub stored : register (Load 4 2) (perform (Store 0 2) (busy []) 5 9).guest 4 ≡ 7

pub record Control : Type 0 where
  -- "if r[x] = 0, pc = 256y + z"; "Unless JZ jumps, pc moves on by 1, from N-1 to 0"
  pub jumps : (perform (Jz 1 3) (busy []) 5 9).guest.pc ≡ 3
  pub stays : (perform (Jz 0 3) (busy []) 5 9).guest.pc ≡ 5
  pub moves : next 6 (busy []) ≡ 5
  pub around : next 5 (busy []) ≡ 0
  -- "An epoch is complete after L instructions .. or its 40th TIME"
  pub under : complete 4 (busy []) ≡ false
  pub full : complete 3 (busy []) ≡ true
  pub thirty_nine : complete 50 (with_counts (busy []) 45 39) ≡ false
  pub forty : complete 50 (with_counts (busy []) 45 40) ≡ true

pub record Clock : Type 0 where
  -- "r[x] = clock reading"
  pub reading : register (Time 4) (busy []) 4 ≡ 9
  pub counted : (perform (Time 4) (busy []) 5 9).guest.times ≡ 2
  -- "deadline = r[x], armed": r0 is 7, and the timer was armed for 5, or not armed
  pub deadline : (perform (Timer 0) (busy []) 5 9).guest.deadline ≡ 7
  pub armed : (perform (Timer 0) (busy []) 5 9).guest.armed ≡ true
  pub arms : (perform (Timer 0) (with_timer (busy []) false 0) 5 9).guest.armed ≡ true
  pub unarmed_deadline : (perform (Timer 0) (with_timer (busy []) false 0) 5 9).guest.deadline ≡ 7
  -- also while a timer interrupt is untaken, which stays
  pub untaken : (perform (Timer 0) (busy (status 3 0 4 ∷ [])) 5 9).guest ≡ onward (with_timer (busy (status 3 0 4 ∷ [])) true 7) 5

pub record Taking : Type 0 where
  -- "r[x] status, then r[y] operation, then r[z] data": with equal registers the last one stays
  pub apart : (perform (Take 4 5 6) (busy (status 1 3 8 ∷ status 2 4 0 ∷ [])) 5 9).guest.regs ≡ 7 ∷ 0 ∷ 4294967295 ∷ 1 ∷ 1 ∷ 3 ∷ 8 ∷ 0 ∷ []
  pub all : register (Take 4 4 4) (busy (status 1 3 8 ∷ [])) 4 ≡ 8
  pub first : register (Take 4 4 5) (busy (status 1 3 8 ∷ [])) 4 ≡ 3
  -- "oldest interrupt leaves the queue"; "all 0 if the queue is empty"
  pub oldest : (perform (Take 4 5 6) (busy (status 1 3 8 ∷ status 2 4 0 ∷ [])) 5 9).guest.queue ≡ status 2 4 0 ∷ []
  pub empty : (perform (Take 0 2 3) (busy []) 5 9).guest.regs ≡ 0 ∷ 0 ∷ 0 ∷ 0 ∷ 0 ∷ 0 ∷ 0 ∷ 0 ∷ []

pub record Starting : Type 0 where
  -- "the word is read before r[z] is written", with x = z
  pub shown : (perform (Start 0 2 0) (busy []) 5 9).shown ≡ Some (record { op = record { 0 = 3 }; device = 2; word = 7 })
  pub number : register (Start 0 2 0) (busy []) 0 ≡ 3
  pub table : (perform (Start 0 2 0) (busy []) 5 9).guest.table ≡ up_to 3
  pub last_number : (perform (Start 0 2 0) (busy []) 5 9).guest.last ≡ record { 0 = 3 }
  -- "gives 0, starts nothing and shows nothing if table entries plus untaken device interrupts are 16, or the last number is 65,535"
  pub full : register (Start 0 2 3) (with_table (busy (status 1 3 8 ∷ [])) (up_to 15)) 3 ≡ 0
  pub full_shown : (perform (Start 0 2 3) (with_table (busy (status 1 3 8 ∷ [])) (up_to 15)) 5 9).shown ≡ None
  pub full_table : (perform (Start 0 2 3) (with_table (busy (status 1 3 8 ∷ [])) (up_to 15)) 5 9).guest.table ≡ up_to 15
  -- a timer's interrupt takes no place
  pub timer_beside : (perform (Start 0 2 3) (with_table (busy (status 3 0 8 ∷ [])) (up_to 15)) 5 9).guest.table ≡ up_to 15 ++ (record { 0 = 3 } ∷ [])
  pub last : (perform (Start 0 2 3) (with_last (busy []) (record { 0 = 65535 })) 5 9).shown ≡ None
  pub last_table : (perform (Start 0 2 3) (with_last (busy []) (record { 0 = 65535 })) 5 9).guest.table ≡ up_to 2

-- The whole guest that each way of changing it leaves: what an instruction does not name stays
pub record Wholes : Type 0 where
  -- "Fresh: all zero"
  pub zeros : fresh ≡ whole 0 0 0 false 0 (replicate 8 0) (replicate 64 0) 0 [] []
  pub nop : (perform Nop (busy []) 5 9).guest ≡ whole 5 4 1 true 5 (7 ∷ 0 ∷ 4294967295 ∷ 1 ∷ 0 ∷ 0 ∷ 0 ∷ 0 ∷ []) (replicate 64 0) 2 (up_to 2) []
  pub set : (perform (SetTo 4 9) (busy []) 5 9).guest ≡ whole 5 4 1 true 5 (7 ∷ 0 ∷ 4294967295 ∷ 1 ∷ 9 ∷ 0 ∷ 0 ∷ 0 ∷ []) (replicate 64 0) 2 (up_to 2) []
  pub store : (perform (Store 0 2) (busy []) 5 9).guest ≡ whole 5 4 1 true 5 (7 ∷ 0 ∷ 4294967295 ∷ 1 ∷ 0 ∷ 0 ∷ 0 ∷ 0 ∷ []) (replicate 63 0 ++ (7 ∷ [])) 2 (up_to 2) []
  pub take : (perform (Take 4 5 6) (busy (status 1 3 8 ∷ [])) 5 9).guest ≡ whole 5 4 1 true 5 (7 ∷ 0 ∷ 4294967295 ∷ 1 ∷ 1 ∷ 3 ∷ 8 ∷ 0 ∷ []) (replicate 64 0) 2 (up_to 2) []
  pub time : (perform (Time 4) (busy []) 5 9).guest ≡ whole 5 4 2 true 5 (7 ∷ 0 ∷ 4294967295 ∷ 1 ∷ 9 ∷ 0 ∷ 0 ∷ 0 ∷ []) (replicate 64 0) 2 (up_to 2) []
  pub start : (perform (Start 0 2 4) (busy []) 5 9).guest ≡ whole 5 4 1 true 5 (7 ∷ 0 ∷ 4294967295 ∷ 1 ∷ 3 ∷ 0 ∷ 0 ∷ 0 ∷ []) (replicate 64 0) 3 (up_to 3) []
  pub timer : (perform (Timer 0) (busy []) 5 9).guest ≡ whole 5 4 1 true 7 (7 ∷ 0 ∷ 4294967295 ∷ 1 ∷ 0 ∷ 0 ∷ 0 ∷ 0 ∷ []) (replicate 64 0) 2 (up_to 2) []
  pub boundary : boundary (status 1 1 9 ∷ []) 5 (busy []) ≡ whole 4 0 0 false 0 (7 ∷ 0 ∷ 4294967295 ∷ 1 ∷ 0 ∷ 0 ∷ 0 ∷ 0 ∷ []) (replicate 64 0) 2 (record { 0 = 2 } ∷ []) (status 1 1 9 ∷ status 3 0 5 ∷ [])
  -- only TIME reads the clock
  pub readers :
      map is_time (Nop ∷ SetTo 0 0 ∷ Add 0 0 0 ∷ Sub 0 0 0 ∷ Div 0 0 0 ∷ Load 0 0 ∷ Store 0 0 ∷ Jz 0 0 ∷ Take 0 0 0 ∷ Time 0 ∷ Start 0 0 0 ∷ Timer 0 ∷ [])
      ≡ replicate 9 false ++ (true ∷ false ∷ false ∷ [])

pub record Boundaries : Type 0 where
  -- a failover boundary: the completion of 1, 2 uncertain, and the timer that is due, in this order
  pub order : (failover (status 1 1 9 ∷ []) 5 (busy [])).queue ≡ status 1 1 9 ∷ status 2 2 0 ∷ status 3 0 5 ∷ []
  pub emptied : (failover (status 1 1 9 ∷ []) 5 (busy [])).table ≡ []
  pub disarmed : (failover (status 1 1 9 ∷ []) 5 (busy [])).armed ≡ false
  pub cleared : (failover (status 1 1 9 ∷ []) 5 (busy [])).deadline ≡ 0
  -- "these three acts, and nothing else, wait while a timer interrupt is untaken"
  pub untaken : (failover (status 1 1 9 ∷ []) 5 (busy (status 3 0 4 ∷ []))).queue ≡ status 3 0 4 ∷ status 1 1 9 ∷ status 2 2 0 ∷ []
  pub still_armed : (failover (status 1 1 9 ∷ []) 5 (busy (status 3 0 4 ∷ []))).armed ≡ true
  pub still_due : (failover (status 1 1 9 ∷ []) 5 (busy (status 3 0 4 ∷ []))).deadline ≡ 5
  pub untaken_done : (failover (status 1 1 9 ∷ []) 5 (busy (status 3 0 4 ∷ []))).done ≡ 0
  pub untaken_times : (failover (status 1 1 9 ∷ []) 5 (busy (status 3 0 4 ∷ []))).times ≡ 0
  pub untaken_table : (failover (status 1 1 9 ∷ []) 5 (busy (status 3 0 4 ∷ []))).table ≡ []
  -- not in a failover epoch: nothing is uncertain; "deadline ≤ clock" fails at 4
  pub certain : (boundary (status 1 1 9 ∷ []) 5 (busy [])).queue ≡ status 1 1 9 ∷ status 3 0 5 ∷ []
  pub left : (boundary (status 1 1 9 ∷ []) 5 (busy [])).table ≡ record { 0 = 2 } ∷ []
  pub early : boundary [] 4 (busy []) ≡ with_counts (busy []) 0 0
  -- "(status 3, operation 0, data clock)": the clock and not the deadline; only "if armed"
  pub late : (boundary [] 9 (busy [])).queue ≡ status 3 0 9 ∷ []
  pub unarmed : (boundary [] 9 (with_timer (busy []) false 0)).queue ≡ []
  -- "in order of arrival"
  pub arrival : (boundary (status 2 2 0 ∷ status 1 1 9 ∷ []) 4 (busy [])).queue ≡ status 2 2 0 ∷ status 1 1 9 ∷ []
  -- "one whose number isn't in the table is dropped"
  pub dropped : deliver (busy []) (status 1 3 9) ≡ busy []

-- "Well formed: a listed code, registers below 8, device below 4, jump target below N, unused bytes 0"; N is 9 here
pub record WellFormed : Type 0 where
  pub nop : decode 0 0 0 0 9 ≡ Some Nop
  pub set : decode 1 7 255 255 9 ≡ Some (SetTo 7 65535)
  pub add : decode 2 5 6 7 9 ≡ Some (Add 5 6 7)
  pub sub : decode 3 5 6 7 9 ≡ Some (Sub 5 6 7)
  pub div : decode 4 5 6 7 9 ≡ Some (Div 5 6 7)
  pub load : decode 5 6 7 0 9 ≡ Some (Load 6 7)
  pub store : decode 6 6 7 0 9 ≡ Some (Store 6 7)
  pub jump : decode 7 7 0 8 9 ≡ Some (Jz 7 8)
  pub high : decode 7 7 1 2 259 ≡ Some (Jz 7 258)
  pub take : decode 8 5 6 7 9 ≡ Some (Take 5 6 7)
  pub add_sevens : decode 2 7 7 7 9 ≡ Some (Add 7 7 7)
  pub sub_sevens : decode 3 7 7 7 9 ≡ Some (Sub 7 7 7)
  pub div_sevens : decode 4 7 7 7 9 ≡ Some (Div 7 7 7)
  pub take_sevens : decode 8 7 7 7 9 ≡ Some (Take 7 7 7)
  pub load_sevens : decode 5 7 7 0 9 ≡ Some (Load 7 7)
  pub store_sevens : decode 6 7 7 0 9 ≡ Some (Store 7 7)
  pub start_sevens : decode 17 7 3 7 9 ≡ Some (Start 7 3 7)
  pub time : decode 16 7 0 0 9 ≡ Some (Time 7)
  pub start : decode 17 6 3 7 9 ≡ Some (Start 6 3 7)
  pub timer : decode 18 7 0 0 9 ≡ Some (Timer 7)

-- x, y, z: one of them is 8, the others 0; one of them is 1, the others 0
abbrev pub Operands : Type 0
Operands = ℕ × ℕ × ℕ

abbrev pub eight_in : List Operands
eight_in = (8, 0, 0) ∷ (0, 8, 0) ∷ (0, 0, 8) ∷ []

abbrev pub one_in : List Operands
one_in = (1, 0, 0) ∷ (0, 1, 0) ∷ (0, 0, 1) ∷ []

-- the code is not well formed with any of them
abbrev pub Ill : ℕ → List Operands → Type 0
Ill c ts = map (λ (t : Operands). is_bad (decode c t.0 t.1 t.2 9)) ts ≡ replicate (length ts) true

pub record IllFormed : Type 0 where
  -- "a listed code"
  pub code9 : Ill 9 ((0, 0, 0) ∷ [])
  pub code15 : Ill 15 ((0, 0, 0) ∷ [])
  pub code19 : Ill 19 ((0, 0, 0) ∷ [])
  pub code255 : Ill 255 ((0, 0, 0) ∷ [])
  -- "registers below 8", in each place of each code; the place of START's device comes below
  pub set : Ill 1 ((8, 0, 0) ∷ [])
  pub add : Ill 2 eight_in
  pub sub : Ill 3 eight_in
  pub div : Ill 4 eight_in
  pub load : Ill 5 ((8, 0, 0) ∷ (0, 8, 0) ∷ [])
  pub store : Ill 6 ((8, 0, 0) ∷ (0, 8, 0) ∷ [])
  pub jump : Ill 7 ((8, 0, 0) ∷ [])
  pub take : Ill 8 eight_in
  pub time : Ill 16 ((8, 0, 0) ∷ [])
  pub start : Ill 17 ((8, 0, 0) ∷ (0, 0, 8) ∷ [])
  pub timer : Ill 18 ((8, 0, 0) ∷ [])
  -- "device below 4, jump target below N"
  pub device : Ill 17 ((0, 4, 0) ∷ [])
  pub target : Ill 7 ((0, 0, 9) ∷ (0, 1, 0) ∷ [])
  pub high_target : decode 7 0 1 3 259 ≡ None
  -- "unused bytes 0"
  pub nop_unused : Ill 0 one_in
  pub load_unused : Ill 5 ((0, 0, 1) ∷ [])
  pub store_unused : Ill 6 ((0, 0, 1) ∷ [])
  pub time_unused : Ill 16 ((0, 1, 0) ∷ (0, 0, 1) ∷ [])
  pub timer_unused : Ill 18 ((0, 1, 0) ∷ (0, 0, 1) ∷ [])

pub record GuestCases : Type 0 where
  pub arithmetic : Arithmetic
  pub control : Control
  pub clock : Clock
  pub taking : Taking
  pub starting : Starting
  pub wholes : Wholes
  pub boundaries : Boundaries
  pub well_formed : WellFormed
  pub ill_formed : IllFormed
