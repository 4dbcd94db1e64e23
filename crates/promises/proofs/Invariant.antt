-- The invariant of demand 3: the second card can follow to where the first is, and a lone card can stand where the devices think it does.
use mathlib.Core.Bool.{Bool, false, not, true}
use mathlib.Core.List.{List, [], ◌++◌}
use mathlib.Core.Path.{◌≡◌, ap, refl}
use Prim.Native.Nat.{◌<◌, ℕ}
use borrow.Author.Tests.{not-true}
use lib.Dec.{eqb, leb}
use Rattle.rules.proofs.Choices.{by_cases, clash, or_right}
use Rattle.rules.proofs.Operations.{all_listed}
use Rattle.rules.proofs.PairWhole.{Whole}
use Rattle.rules.proofs.Verdicts.{IfTaken}
use Rattle.rules.specs.Boundary.{boundary}
use Rattle.rules.specs.Events.{Verdict, taken}
use Rattle.rules.specs.Guest.{listed, ops_of}
use Rattle.rules.specs.GuestSound.{proper, says}
use Rattle.rules.specs.History.{History, after, recorded}
use Rattle.rules.specs.Instruction.{complete}
use Rattle.rules.specs.Lone.{LoneStep, reached}
use Rattle.rules.specs.Messages.{ints}
use Rattle.rules.specs.Pair.{awaited, buffers, enters, idle, is_failed, is_following, is_promoted, ran_on}
use Rattle.rules.specs.Program.{Setup, bad, exec}
use Rattle.rules.specs.declared.Card.{Card}
use Rattle.rules.specs.declared.EpochNo.{EpochNo}
use Rattle.rules.specs.declared.Event.{Event}
use Rattle.rules.specs.declared.Guest.{Guest}
use Rattle.rules.specs.declared.Interrupt.{Interrupt}
use Rattle.rules.specs.declared.Message.{Message}
use Rattle.rules.specs.declared.OpNo.{OpNo}
use Rattle.rules.specs.declared.Phase.{Phase}
use Rattle.rules.specs.declared.RecordEntry.{RecordEntry}
use Rattle.rules.specs.declared.Role.{Role}
use Rattle.rules.specs.declared.Role.TheVariants.{Failover, Following, Promoted}
use Rattle.slots.proofs.Tests.{and_true}
use Rattle.promises.proofs.Follow.{Post}
use Rattle.promises.proofs.Ledger.{Ledger}
use Rattle.promises.proofs.LoneCard.{Possible, lonely, possible-bound, possible-interrupt, possible-shown}
use Rattle.promises.proofs.Outstanding.{Reached, reached-boundary, reached-exec}
use Rattle.promises.proofs.Trail.{Trail}
use Rattle.promises.proofs.Wires.{Wires}

-- where the second card stands to the front, by its role
abbrev pub Stand : Role → EpochNo → EpochNo → Type 0
Stand Following eb ep = eb.0 < ep.0
Stand Failover eb ep = eb.0 ≡ ep.0
Stand Promoted eb ep = ⊥

abbrev pub posted : Bool → Card → List Message → Post
posted i b ms = record { idle = i; epoch = b.epoch; guest = b.guest; msgs = ms }

-- B, with all that it has or will have
abbrev pub post_of : History → Post
post_of h = posted (idle h.pair) h.pair.b (h.pair.inbox ++ h.pair.link)

module _ (S : Setup) (past : List LoneStep) where
  -- a lone card can be where the card c is, with the record es; every operation in its table reached its device
  pub record Own (c : Card) (es : List RecordEntry) : Type 0 where
    pub lone : Possible S past (lonely c.guest c.buffer es)
    pub told : Reached c.guest es

  -- the second card b can follow, with the messages `inbox ++ a`, to the front c; and a lone card can stand at the front with the whole record
  pub record Core (i : Bool) (b : Card) (o : Role) (inbox : List Message) (eb : List Guest) (es : List RecordEntry) (a : List Message) (c : Card) (f : Phase) (ep : List Guest) : Type 0 where
    pub trail : Trail S (posted i b (inbox ++ a)) c f eb ep
    pub wires : Wires b.epoch c.epoch inbox a
    pub stand : Stand o b.epoch c.epoch
    pub own : Own c es

  abbrev pub CoreOf : History → Type 0
  CoreOf h = Core (idle h.pair) h.pair.b h.pair.role h.pair.inbox h.entered_b h.shown h.pair.link h.pair.p h.pair.phase h.entered_p

  -- the second card is in its failover epoch, past where the first stopped
  pub record Ahead (h : History) : Type 0 where
    pub role : h.pair.role ≡ Failover
    pub stopped : is_failed h.pair.phase ≡ true
    pub entered : h.entered_b ≡ h.entered_p
    pub lone : Possible S past (lonely h.pair.b.guest (ints h.pair.b.epoch h.pair.inbox) h.shown)

  -- the second card is promoted
  pub record Alone (h : History) : Type 0 where
    pub role : h.pair.role ≡ Promoted
    pub stopped : is_failed h.pair.phase ≡ true
    pub rest : List Guest
    pub entered : h.entered_b ≡ h.entered_p ++ rest
    pub own : Own h.pair.b h.shown

  pub data Inv (h : History) : Type 0 where
    behind : CoreOf h → Inv h
    ahead : Ahead h → Inv h
    alone : Alone h → Inv h

  -- an event that is taken keeps it
  abbrev pub Keeps : History → Event → Verdict → Type 0
  Keeps h ev v = IfTaken (λ t o. Inv (after ev h (taken t o))) v

  -- ---- a card on its own: P until its stop, B from promotion on

  pub own-step : (c : Card) (es : List RecordEntry) (w : ℕ) → complete S.limit c.guest ≡ false → bad S c.guest ≡ false → Own c es → Own (ran_on c (exec S c.guest w).guest) (recorded es (exec S c.guest w).shown)
  unfolding ran_on
  own-step c es w n d k = record { lone = possible-shown S past c.guest c.buffer es k.lone w n d; told = reached-exec S c.guest w es k.told }

  pub own-int : (c : Card) (es : List RecordEntry) (j : Interrupt) → proper j ≡ true → awaited c j.op ≡ true → Own c es → Own (buffers c j) es
  unfolding buffers awaited proper
  own-int c es j y q k =
      let a = and_true (listed j.op c.guest.table) (not (listed j.op (ops_of c.buffer))) q in
      record {
        lone =
            possible-interrupt S past c.guest c.buffer es k.lone j (and_true (says j) (leb 1 j.op.0) y).0 a.0 (not-true (listed j.op (ops_of c.buffer)) a.1)
            (or_right (eqb j.status 2) (reached j.op es) (all_listed (λ (n : OpNo). reached n es ≡ true) j.op c.guest.table k.told a.0));
        told = k.told;
      }

  pub own_turn : (c : Card) (es : List RecordEntry) (w : ℕ) → complete S.limit c.guest ≡ true → Own c es → Own (enters c (boundary c.buffer w c.guest)) es
  unfolding enters
  own_turn c es w n k = record { lone = possible-bound S past c.guest c.buffer es k.lone w n; told = reached-boundary c.buffer w c.guest es k.told }

-- ---- what a sound pair on the books says of the three cases

module _ (S : Setup) (past : List LoneStep) (h : History) (e : Ledger S h) (w : Whole h.pair) where
  -- B follows no more: the stop is detected, and all has arrived
  pub gone : is_following h.pair.role ≡ false → (is_failed h.pair.phase ≡ true) × (h.pair.link ≡ []) × (idle h.pair ≡ false)
  gone q =
      let d = w.turns.noticed q in
      (w.turns.stopped d, e.arrived d, by_cases (idle h.pair) (λ z. clash (w.turns.asleep z).0 q) (λ z. z))

  -- while P lives, B is behind it
  pub living : Inv S past h → is_failed h.pair.phase ≡ false → CoreOf S past h
  living (behind k) q = k
  living (ahead a) q = clash a.stopped q
  living (alone a) q = clash a.stopped q

  pub less : Stand h.pair.role h.pair.b.epoch h.pair.p.epoch → is_failed h.pair.phase ≡ false → h.pair.b.epoch.0 < h.pair.p.epoch.0
  unfolding is_following
  less t q = go h.pair.role refl t
    where
      go : (o : Role) → h.pair.role ≡ o → Stand o h.pair.b.epoch h.pair.p.epoch → h.pair.b.epoch.0 < h.pair.p.epoch.0
      go Following r k = k
      go Failover r k = clash (gone (ap is_following r)).0 q
      go Promoted r k = absurd k

-- promoted: only the third case is left
pub not_promoted {ℓ} : {X : Type ℓ} (o : Role) (eb ep : EpochNo) → Stand o eb ep → is_promoted o ≡ true → X
unfolding is_promoted
not_promoted Following eb ep t q = clash q refl
not_promoted Failover eb ep t q = clash q refl
not_promoted Promoted eb ep t q = absurd t

pub promoted : (S : Setup) (past : List LoneStep) (h : History) → Inv S past h → is_promoted h.pair.role ≡ true → Alone S past h
unfolding is_promoted
promoted S past h (behind k) q = not_promoted h.pair.role h.pair.b.epoch h.pair.p.epoch k.stand q
promoted S past h (ahead a) q = clash q (ap is_promoted a.role)
promoted S past h (alone a) q = a
