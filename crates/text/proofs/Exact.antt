-- No second outcome meets a contract: two texts that are left are spelled as far, and hold the same, where both do.
-- `F.Post κs a r s` is the `ensures` of F as it stands in src/lib.rt, with the lifetimes κs, the arguments a, the result r and what the
-- references hold at the end, s.
use mathlib.Core.Path.{◌≡◌, sym, ◌∙◌}
use Rattle.text.specs.declared.Text.{Text}
use Rattle.text.proofs.Texts.{puts-once}
use Rattle.text.proofs.Text.new.Reads as new
use Rattle.text.proofs.Text.spelled_to.Reads as spelled-to
use Rattle.text.proofs.Text.len.Reads as len
use Rattle.text.proofs.Text.put_byte.Reads as put_byte
use Rattle.text.proofs.Text.put_bytes.Reads as put-bytes
use Rattle.text.proofs.Text.put_number.Reads as put-number
use Rattle.text.proofs.Text.put_hex.Reads as put-hex
use Rattle.text.proofs.Text.put_line_end.Reads as put-line-end
use Rattle.text.proofs.Text.put_number_field.Reads as put-number-field
use Rattle.text.proofs.Text.put_hex_field.Reads as put-hex-field
use Rattle.text.proofs.Text.put_entry.Reads as put-entry
use Rattle.text.proofs.Text.put_entry_line.Reads as put-entry-line
use Rattle.text.proofs.Text.put_end_line.Reads as put-end-line

-- as much is spelled of two texts, they hold the same bytes, and they are lent by one reference
abbrev pub Alike : Text → Text → Type 0
Alike e e' = (e.at ≡ e'.at) × (e.bytes.now ≡ e'.bytes.now) × (e.bytes.ghost_name ≡ e'.bytes.ghost_name)

pub new_exact : (κs a r r' s s' : _) → new.Post κs a r s → new.Post κs a r' s' → Alike r r'
new_exact κs a r r' s s' p q = (p.1.1 ∙ sym q.1.1, p.1.0 ∙ sym q.1.0, p.0 ∙ sym q.0)

pub spelled_to_exact : (κs a r r' s s' : _) → spelled-to.Post κs a r s → spelled-to.Post κs a r' s' → Alike r r'
spelled_to_exact κs a r r' s s' p q = (p.1.1 ∙ sym q.1.1, p.1.0 ∙ sym q.1.0, p.0 ∙ sym q.0)

pub len_exact : (κs a r r' s s' : _) → len.Post κs a r s → len.Post κs a r' s' → r ≡ r'
len_exact κs a r r' s s' p q = p ∙ sym q

pub put_byte_exact : (κs a r r' s s' : _) → put_byte.Post κs a r s → put_byte.Post κs a r' s' → Alike s.0.now s'.0.now
put_byte_exact κs a r r' s s' p q = puts-once p q

pub put_bytes_exact : (κs a r r' s s' : _) → put-bytes.Post κs a r s → put-bytes.Post κs a r' s' → Alike s.0.now s'.0.now
put_bytes_exact κs a r r' s s' p q = puts-once p q

pub put_number_exact : (κs a r r' s s' : _) → put-number.Post κs a r s → put-number.Post κs a r' s' → Alike s.0.now s'.0.now
put_number_exact κs a r r' s s' p q = puts-once p q

pub put_hex_exact : (κs a r r' s s' : _) → put-hex.Post κs a r s → put-hex.Post κs a r' s' → Alike s.0.now s'.0.now
put_hex_exact κs a r r' s s' p q = puts-once p q

pub put_line_end_exact : (κs a r r' s s' : _) → put-line-end.Post κs a r s → put-line-end.Post κs a r' s' → Alike s.0.now s'.0.now
put_line_end_exact κs a r r' s s' p q = puts-once p q

pub put_number_field_exact : (κs a r r' s s' : _) → put-number-field.Post κs a r s → put-number-field.Post κs a r' s' → Alike s.0.now s'.0.now
put_number_field_exact κs a r r' s s' p q = puts-once p q

pub put_hex_field_exact : (κs a r r' s s' : _) → put-hex-field.Post κs a r s → put-hex-field.Post κs a r' s' → Alike s.0.now s'.0.now
put_hex_field_exact κs a r r' s s' p q = puts-once p q

pub put_entry_exact : (κs a r r' s s' : _) → put-entry.Post κs a r s → put-entry.Post κs a r' s' → Alike s.0.now s'.0.now
put_entry_exact κs a r r' s s' p q = puts-once p q

pub put_entry_line_exact : (κs a r r' s s' : _) → put-entry-line.Post κs a r s → put-entry-line.Post κs a r' s' → Alike s.0.now s'.0.now
put_entry_line_exact κs a r r' s s' p q = puts-once p.0 q.0

pub put_end_line_exact : (κs a r r' s s' : _) → put-end-line.Post κs a r s → put-end-line.Post κs a r' s' → Alike s.0.now s'.0.now
put_end_line_exact κs a r r' s s' p q = puts-once p q
