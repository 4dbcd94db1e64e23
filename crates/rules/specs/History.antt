-- A history: the pair, the devices' record, and each card's guest on entry to its epochs 1, 2, 3, ..
use Rattle.std.specs.Prelude.{List, [], ◌∷◌, ◌++◌, map, eqb}
use Rattle.rules.specs.declared.Guest.{Guest}
use Rattle.rules.specs.declared.RecordEntry.{RecordEntry}
use Rattle.rules.specs.declared.Pair.{Pair}
use Rattle.rules.specs.declared.Event.{Event}
use Rattle.rules.specs.Guest.{fresh}
use Rattle.rules.specs.GuestSlots.{laid_guest}
use Rattle.rules.specs.Program.{Setup}
use Rattle.rules.specs.Messages.{only}
use Rattle.rules.specs.Pair.{fresh_pair}
use Rattle.rules.specs.Events.{Verdict, refused, taken, kind, step}
use Rattle.rules.specs.PairSlots.{laid, apply}
use Rattle.std.specs.Prelude.{Option, Some, None}

-- the pair as it stands, what the devices were shown, and the guests on entry
pub record History : Type 0 where
  pub pair : Pair
  pub shown : List RecordEntry
  pub entered_p : List Guest
  pub entered_b : List Guest

-- the record with what is shown at its end
unfoldable pub recorded : List RecordEntry → Option RecordEntry → List RecordEntry
recorded es None = es
recorded es (Some e) = es ++ (e ∷ [])

-- the list with what was found at its end
unfoldable pub noted : {X : Type 0} → List X → Option X → List X
noted l None = l
noted l (Some x) = l ++ (x ∷ [])

-- a refused event leaves pair and record; PEND enters P's next epoch, BEND B's
unfoldable pub after : Event → History → Verdict → History
after ev h (refused why) = h
after ev h (taken s o) =
    record {
      pair = s;
      shown = recorded h.shown o;
      entered_p = noted h.entered_p (only (eqb (kind ev) 4) s.p.guest);
      entered_b = noted h.entered_b (only (eqb (kind ev) 10) s.b.guest);
    }

module _ (S : Setup) where
  -- "P starts in epoch 1": it has entered that, and B has entered none
  unfoldable pub fresh_history : History
  fresh_history = record { pair = fresh_pair S; shown = []; entered_p = fresh ∷ []; entered_b = [] }

  -- one more event
  unfoldable pub feed : History → Event → History
  feed h ev = after ev h (step S.code h.pair ev)

  -- one event after the other
  unfoldable pub run : History → List Event → History
  run h [] = h
  run h (ev ∷ evs) = run (feed h ev) evs

  -- the same of the pair in memory
  unfoldable pub fresh_stored : History
  fresh_stored = record { pair = laid (fresh_pair S); shown = []; entered_p = laid_guest fresh ∷ []; entered_b = [] }

  unfoldable pub feed_stored : History → Event → History
  feed_stored h ev = after ev h (apply S.code h.pair ev)

  unfoldable pub run_stored : History → List Event → History
  run_stored h [] = h
  run_stored h (ev ∷ evs) = run_stored (feed_stored h ev) evs

-- a history laid out in memory
unfoldable pub laid_history : History → History
laid_history h = record { pair = laid h.pair; shown = h.shown; entered_p = map laid_guest h.entered_p; entered_b = map laid_guest h.entered_b }
