-- The image of a pair: which byte is which field.
use Rattle.std.specs.Prelude.{Bool, ◌&&◌, List, ◌≡◌, ℕ, length}
use Rattle.forms.specs.Stored.{Stored, byte, half, word, always, ◌then◌, array, stored_as, flag}
use Rattle.rules.specs.declared.EpochNo.{EpochNo}
use Rattle.rules.specs.declared.Role.{Role}
use Rattle.rules.specs.declared.Guest.{Guest}
use Rattle.rules.specs.declared.Pair.{Pair}
use Rattle.rules.specs.Pair.{clock_sent}
use Rattle.rules.specs.PairSlots.{sound_pair}
use Rattle.layout.specs.Fields.{epoch, interrupt, message, guest, role, phase_number, phase_of, phase_may}

-- "form 1"
abbrev pub image_form : ℕ
image_form = 1

-- "Image, 3,444 bytes"
abbrev pub image_length : ℕ
image_length = 3444

-- "Header 20: form 1; P phase ..; B phase ..; detected; then L, N, e_p, e_b, acknowledgements in flight, zero, 2 bytes each; then the clock sent, 4"
abbrev pub Header : Type 0
Header = (((((((((Unit {0} × ℕ) × Role) × Bool) × ℕ) × ℕ) × EpochNo) × EpochNo) × ℕ) × Unit {0}) × ℕ

-- where each stands
abbrev pub header : Stored Header
header =
    always byte image_form then byte then role then flag
    then half then half then epoch then epoch then half then always half 0
    then word

-- a pair's
abbrev pub header_of : Pair → Header
header_of s = (
  (
    (
      (
        (
          (
            (
              (((tt, phase_number s.phase), s.role), s.detected),
              s.limit,
            ),
            s.count,
          ),
          s.p.epoch,
        ),
        s.b.epoch,
      ),
      s.acks,
    ),
    tt,
  ),
  clock_sent s.phase,
)

-- "Guests P and B, 468 each .. Buffers of P and B, 16×8 each, as the queue. Link 58×12, inbox 128×12"
abbrev pub image : Stored Pair
image =
    stored_as (header then guest then guest then array 16 interrupt then array 16 interrupt then array 58 message then array 128 message)
    (λ t. let h = t.0.0.0.0.0.0 in record {
      p = record { guest = t.0.0.0.0.0.1; epoch = h.0.0.0.0.1; buffer = t.0.0.0.1 };
      phase = phase_of h.0.0.0.0.0.0.0.0.0.1 h.1;
      b = record { guest = t.0.0.0.0.1; epoch = h.0.0.0.1; buffer = t.0.0.1 };
      role = h.0.0.0.0.0.0.0.0.1;
      detected = h.0.0.0.0.0.0.0.1;
      limit = h.0.0.0.0.0.0.1;
      count = h.0.0.0.0.0.1;
      link = t.0.1;
      acks = h.0.0.1;
      inbox = t.1;
    })
    (λ s. ((((((header_of s, s.p.guest), s.b.guest), s.p.buffer), s.b.buffer), s.link), s.inbox))
    (λ t. let h = t.0.0.0.0.0.0 in phase_may h.0.0.0.0.0.0.0.0.0.1 h.1)

-- an image's bytes, and the pair that bytes say
unfoldable pub image_bytes : Pair → List ℕ
image_bytes s = image.bytes s

unfoldable pub image_at : List ℕ → Pair
image_at b = image.at b 0

-- "form, phases and flags in range; zero fields 0; .. clock sent 0 unless waiting"
unfoldable pub image_fine : List ℕ → Bool
image_fine b = image.fine b 0

-- and the pair that it says is sound
unfoldable pub sound_image : List ℕ → Bool
sound_image b = image_fine b && sound_pair (image_at b)

-- the arrays of a pair have their lengths, as its type says: 8 registers and 64 words, 16 and 17 slots; buffers of 16, a link of 58, an inbox of 128
pub record GuestSized (g : Guest) : Type 0 where
  pub regs : length g.regs ≡ 8
  pub mem : length g.mem ≡ 64
  pub table : length g.table ≡ 16
  pub queue : length g.queue ≡ 17

pub record PairSized (s : Pair) : Type 0 where
  pub p : GuestSized s.p.guest
  pub b : GuestSized s.b.guest
  pub buffer : length s.p.buffer ≡ 16
  pub own : length s.b.buffer ≡ 16
  pub link : length s.link ≡ 58
  pub inbox : length s.inbox ≡ 128
