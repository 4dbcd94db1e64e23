-- What one instruction does to a guest, said once for all of them.
use mathlib.Core.Bool.{◌||◌, false, true}
use mathlib.Core.List.{List, [], ◌++◌, ◌∷◌}
use mathlib.Core.Logic.{◌⊎◌, inl, inr}
use mathlib.Core.Path.{◌≡◌, refl, sym}
use Prim.Native.Nat.{◌<◌, suc, ℕ}
use borrow.Author.Tests.{ltb-true}
use lib.Dec.{eqb, ltb}
use lib.ListN.{drop}
use native.Mathlib.Omega.{arith}
use Rattle.slots.specs.Slots.{pick}
use Rattle.rules.proofs.Choices.{clash, pick_case, pick-false}
use Rattle.rules.specs.Guest.{onward, reg, with_mem, with_reg, with_regs}
use Rattle.rules.specs.Instruction.{cannot_start, is_time, moved, next, next_op, perform, quiet, start, starts, take}
use Rattle.rules.specs.declared.Guest.{Guest}
use Rattle.rules.specs.declared.Instr.{Instr}
use Rattle.rules.specs.declared.Instr.TheVariants.{Add, Div, Jz, Load, Nop, SetTo, Start, Store, Sub, Take, Time, Timer}
use Rattle.rules.specs.declared.Ran.{Ran}
use Rattle.rules.specs.declared.RecordEntry.{RecordEntry}
use Rattle.std.specs.Prelude.{Some, None}

-- a jump's target lies inside a program of n instructions
abbrev pub Inside : ℕ → Instr → Type 0
Inside n Nop = Unit
Inside n (SetTo x k) = Unit
Inside n (Add x y z) = Unit
Inside n (Sub x y z) = Unit
Inside n (Div x y z) = Unit
Inside n (Load x y) = Unit
Inside n (Store x y) = Unit
Inside n (Jz x t) = t < n
Inside n (Take x y z) = Unit
Inside n (Time x) = Unit
Inside n (Start x y z) = Unit
Inside n (Timer x) = Unit

-- nothing is started, and the queue is as it was or has lost its oldest; or an operation is started, with the next number
pub data Deed (g : Guest) (r : Ran) : Type 0 where
  calm : r.shown ≡ None → r.guest.table ≡ g.table → r.guest.last ≡ g.last → (r.guest.queue ≡ g.queue) ⊎ (r.guest.queue ≡ drop 1 g.queue) → Deed g r
  begun : (e : RecordEntry) → r.shown ≡ Some e → e.op ≡ next_op g → cannot_start g ≡ false → r.guest.table ≡ g.table ++ (next_op g ∷ []) → r.guest.last ≡ next_op g → r.guest.queue ≡ g.queue → Deed g r

-- n is the pc that follows where there is no jump
pub record Effect (i : Instr) (g : Guest) (n : ℕ) (r : Ran) : Type 0 where
  pub done : r.guest.done ≡ suc g.done
  pub times : r.guest.times ≡ pick (is_time i) (suc g.times) g.times
  pub lands : (k : ℕ) → Inside k i → n < k → r.guest.pc < k
  pub clock : g.armed || eqb g.deadline 0 ≡ true → r.guest.armed || eqb r.guest.deadline 0 ≡ true
  pub deed : Deed g r

-- only registers, memory and the pc change
plain : (i : Instr) (g : Guest) (n : ℕ) (rs ms : List ℕ) (m : ℕ) → is_time i ≡ false → ((k : ℕ) → Inside k i → n < k → m < k) → Effect i g n (quiet (onward (with_mem (with_regs g rs) ms) m))
plain i g n rs ms m q h = record { done = refl; times = sym (pick-false (suc g.times) g.times q); lands = h; clock = λ c. c; deed = calm refl refl refl (inl refl) }

onto : (i : Instr) (n : ℕ) → (k : ℕ) → Inside k i → n < k → n < k
onto i n k a h = h

pub effect : (i : Instr) (g : Guest) (n c : ℕ) → Effect i g n (perform i g n c)
unfolding perform start starts moved take is_time
effect Nop g n c = plain Nop g n g.regs g.mem n refl (onto Nop n)
effect (SetTo x v) g n c = plain (SetTo x v) g n _ g.mem n refl (onto (SetTo x v) n)
effect (Add x y z) g n c = plain (Add x y z) g n _ g.mem n refl (onto (Add x y z) n)
effect (Sub x y z) g n c = plain (Sub x y z) g n _ g.mem n refl (onto (Sub x y z) n)
effect (Div x y z) g n c = plain (Div x y z) g n _ g.mem n refl (onto (Div x y z) n)
effect (Load x y) g n c = plain (Load x y) g n _ g.mem n refl (onto (Load x y) n)
effect (Store x y) g n c = plain (Store x y) g n g.regs _ n refl (onto (Store x y) n)
effect (Jz x t) g n c = plain (Jz x t) g n g.regs g.mem _ refl λ k a h. pick_case (λ (m : ℕ). m < k) (eqb (reg g x) 0) t n (λ _. a) (λ _. h)
effect (Take x y z) g n c = record { done = refl; times = refl; lands = onto (Take x y z) n; clock = λ q. q; deed = calm refl refl refl (inr refl) }
effect (Time x) g n c = record { done = refl; times = refl; lands = onto (Time x) n; clock = λ q. q; deed = calm refl refl refl (inl refl) }
effect (Start x y z) g n c =
    pick_case (λ (r : Ran). Effect (Start x y z) g n (moved n r)) (cannot_start g) (quiet (with_reg g z 0)) (starts g x y z)
    (λ _. record { done = refl; times = refl; lands = onto (Start x y z) n; clock = λ q. q; deed = calm refl refl refl (inl refl) })
    (λ f. record { done = refl; times = refl; lands = onto (Start x y z) n; clock = λ q. q; deed = begun _ refl refl f refl refl refl })
effect (Timer x) g n c = record { done = refl; times = refl; lands = onto (Timer x) n; clock = λ _. refl; deed = calm refl refl refl (inl refl) }

-- "pc moves on by 1, from N-1 to 0"
pub next_inside : (n : ℕ) (g : Guest) → g.pc < n → next n g < n
unfolding next
next_inside n g h = pick_case (λ (m : ℕ). m < n) (ltb (suc g.pc) n) (suc g.pc) 0 (λ q. ltb-true (suc g.pc) n q) (λ _. omega arith)

-- only TIME looks at the clock
pub perform-clock : (i : Instr) (g : Guest) (n c d : ℕ) → is_time i ≡ false → perform i g n c ≡ perform i g n d
unfolding perform is_time
perform-clock Nop g n c d h = refl
perform-clock (SetTo x k) g n c d h = refl
perform-clock (Add x y z) g n c d h = refl
perform-clock (Sub x y z) g n c d h = refl
perform-clock (Div x y z) g n c d h = refl
perform-clock (Load x y) g n c d h = refl
perform-clock (Store x y) g n c d h = refl
perform-clock (Jz x t) g n c d h = refl
perform-clock (Take x y z) g n c d h = refl
perform-clock (Time x) g n c d h = clash refl h
perform-clock (Start x y z) g n c d h = refl
perform-clock (Timer x) g n c d h = refl
