-- The image is a lawful form: what was saved is read again, and an image that is fine is saved again as it was.
use mathlib.Core.Path.{◌≡◌, refl}
use mathlib.Core.Bool.{true}
use mathlib.Core.List.{List}
use Prim.Native.Nat.{ℕ}
use native.Mathlib.Omega.{arith}
use lib.ListN.{length}
use lib.Seq.{take_all}
use Rattle.words.specs.Numbers.{Bytes}
use Rattle.forms.proofs.Form.{AnyThing, load-save, save-load}
use Rattle.words.proofs.Arrays.{length-tab}
use Rattle.forms.proofs.Lawful.{Lawful, byte_lawful, half_lawful, word_lawful, flag_lawful, always_lawful, anything, ◌and_then◌, array_lawful, stored_as_lawful}
use Rattle.rules.specs.declared.Pair.{Pair}
use Rattle.layout.specs.Fields.{guest, phase_may}
use Rattle.layout.specs.Image.{Header, header, image, image_form, image_length, image_bytes, image_at, image_fine, GuestSized, PairSized}
use Rattle.layout.proofs.Fields.{epoch_lawful, interrupt_lawful, message_lawful, guest_lawful, role_lawful, phase_back, phase_again}

header_lawful : Lawful header AnyThing
header_lawful =
    anything
    (always_lawful byte_lawful image_form and_then byte_lawful and_then role_lawful and_then flag_lawful
    and_then half_lawful and_then half_lawful and_then epoch_lawful and_then epoch_lawful and_then half_lawful and_then always_lawful half_lawful 0
    and_then word_lawful)
    (λ t. search)

pub image_lawful : Lawful image PairSized
image_lawful =
    stored_as_lawful
    (header_lawful and_then guest_lawful and_then guest_lawful and_then array_lawful interrupt_lawful 16 and_then array_lawful interrupt_lawful 16
    and_then array_lawful message_lawful 58 and_then array_lawful message_lawful 128)
    _ _ (λ t. let h = t.0.0.0.0.0.0 in phase_may h.0.0.0.0.0.0.0.0.0.1 h.1)
    (λ s h. (
      search,
      (λ k. record {
        p = s.p;
        phase = (phase_back s.phase).0 k;
        b = s.b;
        role = s.role;
        detected = s.detected;
        limit = s.limit;
        count = s.count;
        link = s.link;
        acks = s.acks;
        inbox = s.inbox;
      }),
      (phase_back s.phase).1,
    ))
    (λ t m.
    let h = t.0.0.0.0.0.0 in
    let e = phase_again h.0.0.0.0.0.0.0.0.0.1 h.1 m in
    λ k.
    let front : Header = ((((((((((tt, e.0 k), h.0.0.0.0.0.0.0.0.1), h.0.0.0.0.0.0.0.1), h.0.0.0.0.0.0.1), h.0.0.0.0.0.1), h.0.0.0.0.1), h.0.0.0.1), h.0.0.1), tt), e.1 k) in
    ((((((front, t.0.0.0.0.0.1), t.0.0.0.0.1), t.0.0.0.1), t.0.0.1), t.0.1), t.1))

-- "Image, 3,444 bytes"
pub image-size : image.size ≡ image_length
image-size = refl

pub image_bytes-length : (s : Pair) → PairSized s → length (image_bytes s) ≡ image_length
unfolding image_bytes
image_bytes-length s h = image_lawful.form.wide s h

-- what was saved is read again, and is fine
pub image_at-bytes : (s : Pair) → PairSized s → image_at (image_bytes s) ≡ s
unfolding image_bytes image_at
image_at-bytes s h = load-save image_lawful.form s h

pub image_bytes-fine : (s : Pair) → PairSized s → image_fine (image_bytes s) ≡ true
unfolding image_bytes image_fine
image_bytes-fine s h = image_lawful.passes (image.bytes s) 0 s h (take_all image_length (image.bytes s) (omega (arith, image_lawful.form.wide s h)))

-- an image that is fine is saved again as it was
pub image_bytes-at : (b : List ℕ) → Bytes b → length b ≡ image_length → image_fine b ≡ true → image_bytes (image_at b) ≡ b
unfolding image_bytes image_at image_fine
image_bytes-at b h l f = save-load image_lawful.form b h l f

-- what is read has arrays of their lengths
guest-at_sized : (b : List ℕ) (i : ℕ) → GuestSized (guest.at b i)
guest-at_sized b i = record { regs = length-tab _ 8; mem = length-tab _ 64; table = length-tab _ 16; queue = length-tab _ 17 }

pub image_at_sized : (b : List ℕ) → PairSized (image_at b)
unfolding image_at
image_at_sized b = record {
  p = guest-at_sized b 20;
  b = guest-at_sized b 488;
  buffer = length-tab _ 16;
  own = length-tab _ 16;
  link = length-tab _ 58;
  inbox = length-tab _ 128;
}
