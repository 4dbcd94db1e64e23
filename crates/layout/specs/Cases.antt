-- Images byte for byte, as 01's paragraph places them: a fresh pair's, and that of a pair with another value in every field. Each field has
-- bytes that rise by one, so that a byte in another field's place, or in another order, shows.
use mathlib.Core.{Bool.{false, true}, List.{[], ◌++◌, ◌∷◌, List, map}, Path.◌≡◌}
use Rattle.std.specs.Prelude.{◌*◌, ◌+◌, suc, zero, ℕ, length, replicate, set}
use Rattle.rules.specs.{declared.{Guest.Guest, Interrupt.Interrupt, Message.Message, OpNo.OpNo, Pair.Pair, Phase.TheVariants.Waiting, Role.TheVariants.Promoted}, Pair.fresh_pair, PairSlots.laid, Program.under}
use Rattle.words.specs.{Arrays.each}
use Rattle.layout.specs.{Fields.phase_may, Image.{image_at, image_bytes, image_fine, image_length}}

-- n bytes, or n numbers: a, a + 1, ..
unfoldable pub counted : ℕ → ℕ → List ℕ
counted zero a = []
counted (suc n) a = a ∷ counted n (suc a)

-- the numbers of two and of four bytes whose first byte is a, and the next ones a + 1, ..
abbrev pub rising2 : ℕ → ℕ
rising2 a = a + 256 * (a + 1)

abbrev pub rising4 : ℕ → ℕ
rising4 a = rising2 a + 65536 * rising2 (a + 2)

-- what is stored where a stands: an operation, an interrupt, a message
abbrev pub operation_of : ℕ → OpNo
operation_of a = record { 0 = rising2 a }

abbrev pub interrupt_of : ℕ → Interrupt
interrupt_of a = record { status = a; op = operation_of (a + 1); word = rising4 (a + 3) }

abbrev pub message_of : ℕ → Message
message_of a = record { kind = a; status = a + 1; epoch = record { 0 = rising2 (a + 2) }; op = operation_of (a + 4); word = rising4 (a + 6) }

unfoldable pub guest_of : ℕ → Guest
guest_of a =
    record {
      pc = rising2 a;
      done = rising2 (a + 2);
      times = a + 4;
      armed = true;
      last = operation_of (a + 5);
      deadline = rising4 (a + 7);
      regs = map rising4 (counted 8 (a + 11));
      mem = map rising4 (counted 64 (a + 20));
      table = map operation_of (counted 16 (a + 30));
      queue = map interrupt_of (counted 17 (a + 40));
    }

unfoldable pub every_field : Pair
every_field =
    record {
      p = record { guest = guest_of 1; epoch = record { 0 = rising2 24 }; buffer = map interrupt_of (counted 16 60) };
      phase = Waiting (rising4 30);
      b = record { guest = guest_of 101; epoch = record { 0 = rising2 26 }; buffer = map interrupt_of (counted 16 160) };
      role = Promoted;
      detected = true;
      limit = rising2 20;
      count = rising2 22;
      link = map message_of (counted 58 10);
      acks = rising2 28;
      inbox = map message_of (counted 128 100);
    }

-- ---- the bytes

-- "status, 0, operation 2, data 4"
abbrev pub interrupt_bytes : ℕ → List ℕ
interrupt_bytes a = a ∷ 0 ∷ counted 6 (a + 1)

-- "kind .., status, epoch 2, operation 2, zero 2, word 4"
abbrev pub message_bytes : ℕ → List ℕ
message_bytes a = counted 6 a ++ (0 ∷ 0 ∷ []) ++ counted 4 (a + 6)

-- "pc 2, instructions 2, TIMEs 1, armed 1, last number 2, deadline 4, registers 32, memory 256, table 16×2, queue 17×8"
unfoldable pub guest_bytes : ℕ → List ℕ
guest_bytes a =
    counted 5 a ++ (1 ∷ []) ++ counted 6 (a + 5)
    ++ each (counted 4) (counted 8 (a + 11))
    ++ each (counted 4) (counted 64 (a + 20))
    ++ each (counted 2) (counted 16 (a + 30))
    ++ each interrupt_bytes (counted 17 (a + 40))

-- "Header 20: form 1; P phase ..; B phase ..; detected; then L, N, e_p, e_b, acknowledgements in flight, zero, 2 bytes each; then the clock
-- sent, 4. Guests P and B .. Buffers of P and B .. Link 58×12, inbox 128×12"
unfoldable pub every_byte : List ℕ
every_byte =
    (1 ∷ 2 ∷ 3 ∷ 1 ∷ 20 ∷ 21 ∷ 22 ∷ 23 ∷ 24 ∷ 25 ∷ 26 ∷ 27 ∷ 28 ∷ 29 ∷ 0 ∷ 0 ∷ 30 ∷ 31 ∷ 32 ∷ 33 ∷ [])
    ++ guest_bytes 1
    ++ guest_bytes 101
    ++ each interrupt_bytes (counted 16 60)
    ++ each interrupt_bytes (counted 16 160)
    ++ each message_bytes (counted 58 10)
    ++ each message_bytes (counted 128 100)

-- a fresh pair under 5 instructions and L = 2: the header's numbers, and zeros
unfoldable pub fresh_bytes : List ℕ
fresh_bytes = (1 ∷ 1 ∷ 1 ∷ 0 ∷ 2 ∷ 0 ∷ 5 ∷ 0 ∷ 1 ∷ 0 ∷ []) ++ replicate 3434 0

abbrev pub fresh : Pair
fresh = laid (fresh_pair (under (replicate 20 0) 2))

-- the fresh image with n in its byte i; its bytes may not stand there
abbrev pub NotFine : ℕ → ℕ → Type 0
NotFine i n = image_fine (set fresh_bytes i n) ≡ false

pub record Images : Type 0 where
  -- "Image, 3,444 bytes"
  pub size : length fresh_bytes ≡ image_length
  pub every_size : length every_byte ≡ image_length
  -- written, read, and taken for an image
  pub written_fresh : image_bytes fresh ≡ fresh_bytes
  pub written_every : image_bytes every_field ≡ every_byte
  pub read_fresh : image_at fresh_bytes ≡ fresh
  pub read_every : image_at every_byte ≡ every_field
  pub fine_fresh : image_fine fresh_bytes ≡ true
  pub fine_every : image_fine every_byte ≡ true

-- A byte that may not stand there. That every other one is refused too follows from the law: what is fine is written again as it was
pub record NoImages : Type 0 where
  -- "form, phases and flags in range": form; B phase; detected; P phase
  pub form : NotFine 0 2
  pub role0 : NotFine 2 0
  pub role4 : NotFine 2 4
  pub detected : NotFine 3 2
  pub phase0 : phase_may 0 0 ≡ false
  pub phase4 : phase_may 4 0 ≡ false
  -- "zero fields 0"
  pub zero : NotFine 14 1
  pub zero_high : NotFine 15 1
  -- "clock sent 0 unless waiting"
  pub clock_running : phase_may 1 9 ≡ false
  pub clock_waiting : phase_may 2 9 ≡ true
  pub clock_failed : phase_may 3 9 ≡ false

pub record Cases : Type 0 where
  pub images : Images
  pub no_images : NoImages
