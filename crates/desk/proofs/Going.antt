-- The bench on its way through the events of a run file.
use mathlib.Core.Bool.{Bool, true, false}
use mathlib.Core.List.{List, ◌++◌}
use mathlib.Core.Path.{◌≡◌, refl, sym, ap, ◌∙◌}
use Prim.Native.Nat.{ℕ, suc, ◌+◌, ◌-◌, ◌*◌, ◌/◌, ◌<◌, ◌≤◌}
use native.Mathlib.Nat.{sub-zero}
use native.Mathlib.Omega.{arith}
use lib.ListN.{length, length-append}
use Rattle.reader.specs.Events.{event_at, event_count}
use Rattle.rules.specs.Bytes.{stepped}
use Rattle.rules.specs.declared.Outcome.{Outcome}
use Rattle.rules.specs.declared.Pair.{Pair}
use Rattle.rules.specs.declared.Refusal.{Refusal}
use Rattle.rules.specs.PairSlots.{made}
use Rattle.rules.specs.Program.{under}
use Rattle.runfile.proofs.Reading.{events-size, no_events_lem, whole}
use Rattle.runfile.specs.RunFile.{is_run_file, read_answer, read_events, read_limit, read_program}
use Rattle.text.proofs.Texts.{◌then◌}
use Rattle.text.specs.Lines.{entry_length}
use Rattle.text.specs.Texts.{Puts}
use Rattle.text.specs.declared.Text.{Text}
use Rattle.desk.specs.Bench.{Prints, PutsRun, Run, bench_run, bench_start, stopped, goes_on, lines, most_events, shown_line, shows, takes}
use Rattle.desk.proofs.Lines.{ends_short, shown-first}
use Rattle.rules.specs.Answer.{Answer}
use Rattle.std.specs.Prelude.{Ok, Err}

-- "events 0 to 32,768 in eights", of any file
pub few-events : (file : List ℕ) → event_count file ≤ most_events
few-events file = either (is_run_file file) refl
  where
    either : (b : Bool) → is_run_file file ≡ b → length (read_events file) / 8 ≤ most_events
    either true h = let w = (whole file h).lengths.events_small in omega (arith, events-size file h)
    either false h = rw (no_events_lem file h) (omega arith)

-- n events have been taken, the pair is s, and the text that was t₀ is t: what is left to be put makes the whole
pub record Going (file : List ℕ) (fresh s : Pair) (n events : ℕ) (t₀ t : Text) : Type 0 where
  pub count : events ≡ event_count file
  pub room : n ≤ events
  pub rest : {e : Text} → Puts t (lines (takes file s n (events - n))) e → Puts t₀ (lines (takes file fresh 0 events)) e
  pub short : length (lines (takes file fresh 0 events)) ≤ n * entry_length + length (lines (takes file s n (events - n)))

module _ (file : List ℕ) (fresh : Pair) where
  pub going_start : {events : ℕ} {t : Text} → events ≡ event_count file → Going file fresh fresh 0 events t t
  going_start {events} e = record { count = e; room = omega arith; rest = λ p. rw sub-zero at p; short = rw sub-zero (omega arith) }

  module _ {s : Pair} {n events : ℕ} {t₀ t : Text} (g : Going file fresh s n events t₀ t) where
    -- nothing is left but the end
    done : (a : Answer) {e : Text} → takes file s n (events - n) ≡ stopped a n → Puts t (lines (stopped a n)) e
        → PutsRun (takes file fresh 0 (event_count file)) t₀ e
    done a {e} end p =
        let few : n ≤ most_events = omega (arith, g.room, g.count, few-events file) in
        let whole : PutsRun (takes file fresh 0 events) t₀ e = record {
          puts = g.rest (rw end p);
          short = omega (arith, rw end at g.short, ends_short a n few);
        } in
        rw g.count at whole

    -- an event is next
    module _ (o : Outcome) (h : n < events) (is : o ≡ stepped (read_program file) s (event_at file n)) where
      next : takes file s n (events - n) ≡ goes_on o.answer n (shows o.shown (takes file o.pair (n + 1) (events - (n + 1))))
      unfolding takes
      next =
          let k : events - n ≡ suc (events - (n + 1)) = omega arith in
          ap (takes file s n) k ∙ ap (λ (u : Outcome). goes_on u.answer n (shows u.shown (takes file u.pair (n + 1) (events - (n + 1))))) (sym is)

      pub going_more : {t' : Text} → o.answer ≡ Ok tt → Puts t (shown_line o.shown) t' → length (shown_line o.shown) ≤ entry_length
          → Going file fresh o.pair (n + 1) events t₀ t'
      unfolding goes_on
      going_more taken p short =
          let later = takes file o.pair (n + 1) (events - (n + 1)) in
          let left : lines (takes file s n (events - n)) ≡ shown_line o.shown ++ lines later = ap lines (rw taken at next) ∙ shown-first o.shown later in
          record {
            count = g.count;
            room = omega arith;
            rest = λ q. g.rest (rw left (p then q));
            short = omega (arith, g.short, ap length left, length-append (shown_line o.shown) (lines later));
          }

      pub going_stops : {why : Refusal} {e : Text} → o.answer ≡ Err why → Puts t (lines (stopped (Err why) n)) e
          → PutsRun (takes file fresh 0 (event_count file)) t₀ e
      unfolding goes_on
      going_stops refused p = done (Err _) (rw refused at next) p

    pub going_ends : {e : Text} → events ≤ n → Puts t (lines (stopped (Ok tt) events)) e → PutsRun (takes file fresh 0 (event_count file)) t₀ e
    unfolding takes
    going_ends h p =
        let k : events ≡ n = omega (arith, g.room) in
        let z : events - n ≡ 0 = omega arith in
        done (Ok tt) (ap (takes file s n) z) (rw k at p)

-- ---- before the first event

-- what is refused before the first event has the end line alone
pub at_once : (a : Answer) {t e : Text} → Puts t (lines (stopped a 0)) e → PutsRun (stopped a 0) t e
at_once a p = record { puts = p; short = omega (arith, ends_short a 0 (omega arith)) }

module _ (file : List ℕ) {o : Outcome} (e : o ≡ made (under (read_program file) (read_limit file))) where
  started : bench_start file ≡ goes_on o.answer 0 (takes file o.pair 0 (event_count file))
  unfolding bench_start
  started = ap (λ (u : Outcome). goes_on u.answer 0 (takes file u.pair 0 (event_count file))) (sym e)

  pub starts : o.answer ≡ Ok tt → bench_start file ≡ takes file o.pair 0 (event_count file)
  unfolding goes_on
  starts t = rw t at started

  pub starts_not : {why : Refusal} → o.answer ≡ Err why → bench_start file ≡ stopped (Err why) 0
  unfolding goes_on
  starts_not t = rw t at started

module _ (file : List ℕ) where
  pub opens : read_answer file ≡ Ok tt → bench_run file ≡ bench_start file
  unfolding bench_run goes_on
  opens t = rw t

  pub opens_not : {why : Refusal} → read_answer file ≡ Err why → bench_run file ≡ stopped (Err why) 0
  unfolding bench_run goes_on
  opens_not t = rw t

-- ---- the whole

-- what is put into a text of which nothing was spelled stands at the front of the bytes that are lent
pub whole_text : {r : Run} {t e : Text} {before after : List ℕ} {n : ℕ} → PutsRun r t e → t.bytes.now ≡ before → t.at ≡ 0 → e.bytes.now ≡ after → e.at ≡ n → Prints (lines r) before after n
whole_text p b z a n = record { spelled = rw (b, z, a, n) at p.puts.spelled; short = p.short }
