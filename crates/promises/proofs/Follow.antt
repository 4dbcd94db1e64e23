-- A follower: the second card's epoch and guest, with the messages that it has or will have, and the moves that it will make.
use mathlib.Core.Bool.{Bool, ◌&&◌, false, not, true}
use mathlib.Core.List.{List, [], ◌++◌, ◌∷◌}
use mathlib.Core.Path.{◌∙◌, ◌≡◌, ap, ap₂, refl, subst, sym}
use Prim.Native.Nat.{◌<◌, ◌≤◌, suc, ℕ}
use native.Mathlib.Nat.{le_refl}
use native.Mathlib.Omega.{arith}
use Rattle.rules.proofs.Choices.{by_cases}
use Rattle.rules.proofs.Effect.{perform-clock}
use Rattle.rules.proofs.Lists.{All, all_map}
use Rattle.rules.proofs.Messages.{NonEmpty, Without, drop_epoch-left, drop_val-left, epoch_of, gathered_append, gathered_left, part_drop_epoch, part_unread}
use Rattle.rules.proofs.Parts.{part_all}
use Rattle.rules.specs.Boundary.{boundary}
use Rattle.rules.specs.Events.{turned, unread}
use Rattle.rules.specs.Instruction.{complete, next}
use Rattle.rules.specs.Messages.{drop_epoch, drop_val, first, tmes, vals}
use Rattle.rules.specs.Pair.{next_epoch}
use Rattle.rules.specs.Program.{Setup, at_time, exec, instr}
use Rattle.rules.specs.declared.EpochNo.{EpochNo}
use Rattle.rules.specs.declared.Guest.{Guest}
use Rattle.rules.specs.declared.Interrupt.{Interrupt}
use Rattle.rules.specs.declared.Message.{Message}
use Rattle.rules.specs.declared.Ran.{Ran}
use Rattle.slots.specs.Slots.{pick}

pub first_some : (l m : List ℕ) (v w : ℕ) → NonEmpty l → first (l ++ m) v ≡ first l w
unfolding first
first_some [] m v w h = absurd h
first_some (x ∷ l) m v w h = refl

some_append {ℓ} : {X : Type ℓ} (l m : List X) → NonEmpty l → NonEmpty (l ++ m)
some_append [] m h = absurd h
some_append (x ∷ l) m h = tt

-- the messages are of the epoch that the follower comes to, or later
abbrev pub Late : ℕ → List Message → Type 0
Late e x = All (λ m. e ≤ epoch_of m) x

late-without : (e : EpochNo) (d : ℕ) (x : List Message) → e.0 < d → Late d x → Without e x
late-without e d x h a = all_map (λ (m : Message). d ≤ epoch_of m) (λ (m : Message). epoch_of m ≡ e.0 → ⊥) (λ m k q. omega arith) x a

pub record Post : Type 0 where
  pub idle : Bool
  pub epoch : EpochNo
  pub guest : Guest
  pub msgs : List Message

pub data Move : Type 0 where
  act turn : Move

unfoldable pub add : List Message → Post → Post
add x s = record { idle = s.idle; epoch = s.epoch; guest = s.guest; msgs = s.msgs ++ x }

module _ (S : Setup) where
  -- only TIME looks at the clock
  pub exec-clock : (g : Guest) (c d : ℕ) → at_time S g ≡ false → exec S g c ≡ exec S g d
  unfolding exec at_time
  exec-clock g c d h = perform-clock (instr S g) g (next S.count g) c d h

  unfoldable pub move : Move → Post → Post
  move act s = record { idle = s.idle; epoch = s.epoch; guest = (exec S s.guest (first (vals s.epoch s.msgs) 0)).guest; msgs = unread S s.epoch s.guest s.msgs }
  move turn s = record { idle = false; epoch = next_epoch s.epoch; guest = turned s.idle s.epoch s.guest s.msgs 0; msgs = drop_epoch s.epoch s.msgs }

  -- the move can be made, and no word of an event is looked at
  abbrev pub Able : Move → Post → Type 0
  Able act s = (s.idle ≡ false) × (complete S.limit s.guest ≡ false) × (at_time S s.guest ≡ true → NonEmpty (vals s.epoch s.msgs))
  Able turn s = (not s.idle && not (complete S.limit s.guest) ≡ false) × (s.idle ≡ false → NonEmpty (tmes s.epoch s.msgs))

  abbrev pub Legal : List Move → Post → Type 0
  Legal [] s = Unit
  Legal (v ∷ k) s = Able v s × Legal k (move v s)

  unfoldable pub follow : List Move → Post → Post
  follow [] s = s
  follow (v ∷ k) s = follow k (move v s)

  -- the guests on entry to the epochs that the moves enter
  unfoldable pub passes : List Move → Post → List Guest
  passes [] s = []
  passes (act ∷ k) s = passes k (move act s)
  passes (turn ∷ k) s = (move turn s).guest ∷ passes k (move turn s)

  -- ---- one after another

  pub follow_append : (k j : List Move) (s : Post) → follow (k ++ j) s ≡ follow j (follow k s)
  unfolding follow
  follow_append [] j s = refl
  follow_append (v ∷ k) j s = follow_append k j (move v s)

  pub legal_append : (k j : List Move) (s : Post) → Legal k s → Legal j (follow k s) → Legal (k ++ j) s
  unfolding follow
  legal_append [] j s l m = m
  legal_append (v ∷ k) j s l m = (l.0, legal_append k j (move v s) l.1 m)

  pub passes_append : (k j : List Move) (s : Post) → passes (k ++ j) s ≡ passes k s ++ passes j (follow k s)
  unfolding follow passes
  passes_append [] j s = refl
  passes_append (act ∷ k) j s = passes_append k j (move act s)
  passes_append (turn ∷ k) j s = ap (λ (l : List Guest). (move turn s).guest ∷ l) (passes_append k j (move turn s))

  -- ---- epochs never fall; messages are only removed

  pub follow_epoch : (k : List Move) (s : Post) → s.epoch.0 ≤ (follow k s).epoch.0
  unfolding follow move
  follow_epoch [] s = le_refl s.epoch.0
  follow_epoch (act ∷ k) s = follow_epoch k (move act s)
  follow_epoch (turn ∷ k) s = let h : suc s.epoch.0 ≤ (follow k (move turn s)).epoch.0 = follow_epoch k (move turn s) in omega arith

  pub follow_all {κ} : (P : Message → Type κ) (k : List Move) (s : Post) → All P s.msgs → All P (follow k s).msgs
  unfolding follow move
  follow_all P [] s a = a
  follow_all P (act ∷ k) s a = follow_all P k (move act s) (part_all P (part_unread S s.epoch s.guest s.msgs) a)
  follow_all P (turn ∷ k) s a = follow_all P k (move turn s) (part_all P (part_drop_epoch s.epoch s.msgs) a)

  -- ---- messages sent while the follower is behind change nothing on its way

  pub clock_some : (g : Guest) (l m : List ℕ) (v w : ℕ) → (at_time S g ≡ true → NonEmpty l) → exec S g (first (l ++ m) v) ≡ exec S g (first l w)
  clock_some g l m v w h = by_cases (at_time S g) (λ t. ap (exec S g) (first_some l m v w (h t))) (λ f. exec-clock g (first (l ++ m) v) (first l w) f)

  pub unread-left : (e : EpochNo) (g : Guest) (s u : List Message) → (at_time S g ≡ true → NonEmpty (vals e s)) → unread S e g (s ++ u) ≡ unread S e g s ++ u
  unfolding unread
  unread-left e g s u h = go (at_time S g) h
    where
      go : (b : Bool) → (b ≡ true → NonEmpty (vals e s)) → pick b (drop_val e (s ++ u)) (s ++ u) ≡ pick b (drop_val e s) s ++ u
      go true q = drop_val-left e s u (q refl)
      go false q = refl

  act_add : (s : Post) (x : List Message) → Able act s → move act (add x s) ≡ add x (move act s)
  unfolding move add
  act_add s x a =
      ap₂ (λ (g : Guest) (ms : List Message). record { idle = s.idle; epoch = s.epoch; guest = g; msgs = ms })
      (ap (λ (l : List ℕ). (exec S s.guest (first l 0)).guest) (gathered_append s.epoch s.msgs x).0
      ∙ ap (λ (r : Ran). r.guest) (clock_some s.guest (vals s.epoch s.msgs) (vals s.epoch x) 0 0 a.2))
      (unread-left s.epoch s.guest s.msgs x a.2)

  turn-add : (s : Post) (x : List Message) → Without s.epoch x → move turn (add x s) ≡ add x (move turn s)
  unfolding move add turned
  turn-add s x a =
      let l = gathered_left s.epoch s.msgs x a in
      ap₂ (λ (g : Guest) (ms : List Message). record { idle = false; epoch = next_epoch s.epoch; guest = g; msgs = ms })
      (ap₂ (λ (is : List Interrupt) (ts : List ℕ). pick s.idle s.guest (boundary is (first ts 0) s.guest)) l.1 l.2)
      (drop_epoch-left s.epoch s.msgs x a)

  pub record Sent (k : List Move) (s : Post) (x : List Message) : Type 0 where
    pub legal : Legal k (add x s)
    pub ends : follow k (add x s) ≡ add x (follow k s)
    pub guests : passes k (add x s) ≡ passes k s

  pub sent : (k : List Move) (s : Post) (x : List Message) → Legal k s → Late (follow k s).epoch.0 x → Sent k s x
  unfolding follow passes add move
  sent [] s x l a = record { legal = tt; ends = refl; guests = refl }
  sent (act ∷ k) s x l a = go (sent k (move act s) x l.1 a)
    where
      eq : move act (add x s) ≡ add x (move act s)
      eq = act_add s x l.0

      able : Able act (add x s)
      able = (l.0.0, l.0.1, λ t. subst NonEmpty (sym (gathered_append s.epoch s.msgs x).0) (some_append (vals s.epoch s.msgs) (vals s.epoch x) (l.0.2 t)))

      go : Sent k (move act s) x → Sent (act ∷ k) s x
      go r = record { legal = (able, subst (Legal k) (sym eq) r.legal); ends = ap (follow k) eq ∙ r.ends; guests = ap (passes k) eq ∙ r.guests }
  sent (turn ∷ k) s x l a = go (sent k (move turn s) x l.1 a)
    where
      behind : s.epoch.0 < (follow k (move turn s)).epoch.0
      behind = follow_epoch k (move turn s)

      eq : move turn (add x s) ≡ add x (move turn s)
      eq = turn-add s x (late-without s.epoch (follow k (move turn s)).epoch.0 x behind a)

      able : Able turn (add x s)
      able = (l.0.0, λ t. subst NonEmpty (sym (gathered_append s.epoch s.msgs x).2) (some_append (tmes s.epoch s.msgs) (tmes s.epoch x) (l.0.1 t)))

      go : Sent k (move turn s) x → Sent (turn ∷ k) s x
      go r =
          record {
            legal = (able, subst (Legal k) (sym eq) r.legal);
            ends = ap (follow k) eq ∙ r.ends;
            guests = ap₂ (λ (g : Guest) (l : List Guest). g ∷ l) (ap (λ (t : Post). t.guest) eq) (ap (passes k) eq ∙ r.guests);
          }
