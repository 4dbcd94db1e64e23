-- Images byte for byte, by computation.
use mathlib.Core.Path.{◌≡◌, refl, sym, ap, ◌∙◌}
use Prim.Native.Nat.{ℕ}
use lib.ListN.{length}
use Rattle.slots.specs.Slots.{padded}
use Rattle.words.specs.Arrays.{each, tab}
use Rattle.forms.specs.Stored.{all, flag_number}
use Rattle.rules.specs.{Guest.fresh as fresh_guest, GuestSlots.laid_guest, Pair.{clock_sent, fresh_pair}, PairSlots.{laid, laid_card}, Program.under}
use Rattle.layout.specs.{Cases.{Cases, Images, NoImages, counted, every_byte, every_field, fresh, fresh_bytes, guest_bytes, guest_of}, Fields.{phase_may, phase_number, phase_of, role_number, role_of}, Image.{GuestSized, PairSized, image_at, image_bytes, image_fine}}
use Rattle.layout.proofs.Image.{image_at-bytes, image_bytes-fine, image_bytes-length}

-- what they compute with: to unfold this name is to unfold all that its line names
unfoldable the_image : ℕ
unfolding padded each tab all flag_number fresh_guest laid_guest clock_sent fresh_pair laid laid_card under counted every_byte every_field fresh_bytes guest_bytes guest_of phase_may phase_number phase_of role_number role_of image_at image_bytes image_fine
the_image = 0

-- written
pub fresh_bytes_lem : image_bytes fresh ≡ fresh_bytes
unfolding the_image
fresh_bytes_lem = refl

every_byte_lem : image_bytes every_field ≡ every_byte
unfolding the_image
every_byte_lem = refl

-- arrays of their lengths
guest_sized : (a : ℕ) → GuestSized (guest_of a)
unfolding counted guest_of
guest_sized a = record { regs = refl; mem = refl; table = refl; queue = refl }

every_sized : PairSized every_field
unfolding counted every_field
every_sized = record { p = guest_sized 1; b = guest_sized 101; buffer = refl; own = refl; link = refl; inbox = refl }

fresh_sized : PairSized fresh
unfolding padded fresh_guest laid_guest fresh_pair laid laid_card
fresh_sized =
    let guest : GuestSized (laid_guest fresh_guest) = record { regs = refl; mem = refl; table = refl; queue = refl } in
    record { p = guest; b = guest; buffer = refl; own = refl; link = refl; inbox = refl }

-- what is written is read again, and may stand there
images : Images
images =
    record {
      size = sym (ap length fresh_bytes_lem) ∙ image_bytes-length fresh fresh_sized;
      every_size = sym (ap length every_byte_lem) ∙ image_bytes-length every_field every_sized;
      written_fresh = fresh_bytes_lem;
      written_every = every_byte_lem;
      read_fresh = sym (ap image_at fresh_bytes_lem) ∙ image_at-bytes fresh fresh_sized;
      read_every = sym (ap image_at every_byte_lem) ∙ image_at-bytes every_field every_sized;
      fine_fresh = sym (ap image_fine fresh_bytes_lem) ∙ image_bytes-fine fresh fresh_sized;
      fine_every = sym (ap image_fine every_byte_lem) ∙ image_bytes-fine every_field every_sized;
    }

no_images : NoImages
unfolding the_image
no_images =
    record {
      form = refl;
      role0 = refl;
      role4 = refl;
      detected = refl;
      phase0 = refl;
      phase4 = refl;
      zero = refl;
      zero_high = refl;
      clock_running = refl;
      clock_waiting = refl;
      clock_failed = refl;
    }

pub cases : Cases
cases = record { images = images; no_images = no_images }
