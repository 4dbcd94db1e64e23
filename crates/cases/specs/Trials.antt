-- What the cases are made of: events as 01 writes them, given as their 8 bytes, and trials of them over the definitions that the code's
-- contracts cite, `made` and `stepped`.
use mathlib.Core.{List.{[], ◌++◌, ◌∷◌, List}, Path.◌≡◌}
use Rattle.std.specs.Prelude.{◌%◌, ◌/◌, suc, zero, ℕ, length, replicate}
use Rattle.rules.specs.{Bytes.stepped, declared.{Card.Card, EpochNo.EpochNo, Interrupt.Interrupt, Outcome.Outcome, Pair.Pair, RecordEntry.RecordEntry, Role.Role}, History.recorded, PairSlots.{answer_number, made, seen}, Program.under}
use Rattle.slots.specs.{Slots.folded}

-- ---- events: "8 bytes: kind, status, operation (2), word (4)", the lowest byte first

unfoldable pub eight : ℕ → ℕ → ℕ → ℕ → List ℕ
eight k s n w = k ∷ s ∷ n % 256 ∷ n / 256 ∷ w % 256 ∷ w / 256 % 256 ∷ w / 65536 % 256 ∷ w / 16777216 ∷ []

abbrev pub PSTEP : ℕ → List ℕ
PSTEP w = eight 1 0 0 w

-- status, operation, data
abbrev pub PINT : ℕ → ℕ → ℕ → List ℕ
PINT s n w = eight 2 s n w

abbrev pub PTIME : ℕ → List ℕ
PTIME w = eight 3 0 0 w

abbrev pub PEND : List ℕ
PEND = eight 4 0 0 0

abbrev pub LINK : List ℕ
LINK = eight 5 0 0 0

abbrev pub ACK : List ℕ
ACK = eight 6 0 0 0

abbrev pub FAIL : List ℕ
FAIL = eight 7 0 0 0

abbrev pub DETECT : List ℕ
DETECT = eight 8 0 0 0

abbrev pub BSTEP : ℕ → List ℕ
BSTEP w = eight 9 0 0 w

abbrev pub BEND : ℕ → List ℕ
BEND w = eight 10 0 0 w

abbrev pub BINT : ℕ → ℕ → ℕ → List ℕ
BINT s n w = eight 11 s n w

-- ---- trials: the numbers that come back, the devices' record, and the pair after the last event

pub record Trial : Type 0 where
  pub answers : List ℕ
  pub shown : List RecordEntry
  pub pair : Pair

unfoldable pub go_on : List ℕ → Trial → List ℕ → Trial
go_on code t bytes =
    let o : Outcome = stepped code t.pair bytes in
    record { answers = t.answers ++ (answer_number o.answer ∷ []); shown = recorded t.shown o.shown; pair = o.pair }

-- from any pair, under any program
unfoldable pub trial_from : List ℕ → Pair → List (List ℕ) → Trial
trial_from code s evs = folded (go_on code) (record { answers = []; shown = []; pair = s }) evs

-- from the pair that set-up makes
unfoldable pub trial : List ℕ → ℕ → List (List ℕ) → Trial
trial code l evs = trial_from code (made (under code l)).pair evs

abbrev pub pair_after : List ℕ → ℕ → List (List ℕ) → Pair
pair_after code l evs = (trial code l evs).pair

-- the cards without their free slots
abbrev pub card_p : List ℕ → ℕ → List (List ℕ) → Card
card_p code l evs = (seen (pair_after code l evs)).p

abbrev pub card_b : List ℕ → ℕ → List (List ℕ) → Card
card_b code l evs = (seen (pair_after code l evs)).b

-- each event is taken
abbrev pub Goes : List ℕ → ℕ → List (List ℕ) → Type 0
Goes code l evs = (trial code l evs).answers ≡ replicate (length evs) 0

-- each is taken, and the record is es: the bench prints es and `end 0 C`
unfoldable pub printed : Trial → List ℕ × List RecordEntry
printed t = (t.answers, t.shown)

abbrev pub Prints : List ℕ → ℕ → List (List ℕ) → List RecordEntry → Type 0
Prints code l evs es = printed (trial code l evs) ≡ (replicate (length evs) 0, es)

-- each is taken, and then B has this role, epoch and queue
abbrev pub Stand : Type 0
Stand = Role × ℕ × List Interrupt

unfoldable pub stand : Pair → Stand
stand s = (s.role, s.b.epoch.0, (seen s).b.guest.queue)

unfoldable pub standing : Trial → List ℕ × Stand
standing t = (t.answers, stand t.pair)

abbrev pub Stands : List ℕ → ℕ → List (List ℕ) → Stand → Type 0
Stands code l evs here = standing (trial code l evs) ≡ (replicate (length evs) 0, here)

-- how B stands in the pair s, and after each of n repetitions of evs
unfoldable pub stages : List ℕ → Pair → List (List ℕ) → ℕ → List Stand
stages code s evs zero = stand s ∷ []
stages code s evs (suc n) = stand s ∷ stages code (trial_from code s evs).pair evs n

-- the event is answered n
abbrev pub Refuses : List ℕ → Pair → List ℕ → ℕ → Type 0
Refuses code s bytes n = answer_number (stepped code s bytes).answer ≡ n

-- each is taken, and then the event is answered n
abbrev pub RefusesAfter : List ℕ → ℕ → List (List ℕ) → List ℕ → ℕ → Type 0
RefusesAfter code l evs bytes n = (trial code l (evs ++ (bytes ∷ []))).answers ≡ replicate (length evs) 0 ++ (n ∷ [])

-- some events, n times over
unfoldable pub repeated : ℕ → List (List ℕ) → List (List ℕ)
repeated zero evs = []
repeated (suc n) evs = evs ++ repeated n evs

abbrev pub entry : ℕ → ℕ → ℕ → RecordEntry
entry n d w = record { op = record { 0 = n }; device = d; word = w }

abbrev pub epoch_no : ℕ → EpochNo
epoch_no n = record { 0 = n }
