-- Numbers in bytes, at a few places; and an interrupt of 01 as an example of a form: "status, 0, operation 2, data 4".
use mathlib.Core.Path.{◌≡◌, refl}
use mathlib.Core.List.{List, [], ◌∷◌, ◌++◌}
use Prim.Native.Nat.{ℕ, ◌+◌}
use lib.ListN.{length}
use lib.Seq.{sets}
use Rattle.words.specs.Numbers.{le8, le16, le32, at8, at16, at32, Bytes}
use Rattle.forms.proofs.Form.{Form, AnyThing, ◌then◌, fixed, via, load-save, save-load}
use Rattle.forms.proofs.Width.{form8, form16, form32}

-- 0x04030201, lowest byte first, written and read
wrote_32 : le32 67305985 ≡ 1 ∷ 2 ∷ 3 ∷ 4 ∷ []
wrote_32 = refl

read_32 : at32 (9 ∷ 1 ∷ 2 ∷ 3 ∷ 4 ∷ []) 1 ≡ 67305985
read_32 = refl

-- past the end zeros are read, and nothing is stored
read_short : at16 (7 ∷ 9 ∷ []) 1 ≡ 9
read_short = refl

wrote-short : sets (0 ∷ 0 ∷ []) 1 (le16 258) ≡ 0 ∷ 2 ∷ []
wrote-short = refl

record Interrupt : Type 0 where
  status : ℕ
  op : ℕ
  word : ℕ

saved : Interrupt → List ℕ
saved x = le8 x.status ++ le8 0 ++ le16 x.op ++ le32 x.word

loaded : List ℕ → ℕ → Interrupt
loaded s i = record { status = at8 s i; op = at16 s (i + 2); word = at32 s (i + 4) }

form : Form AnyThing (λ s i. at8 s (i + 1) ≡ 0) 8 saved loaded
unfolding saved loaded
form =
    via (form8 then fixed form8 0 tt then form16 then form32)
    (λ p. record { status = p.0.0.0; op = p.0.1; word = p.1 })
    (λ x. (((x.status, tt), x.op), x.word))
    (λ x h. (search, refl))
    (λ s i h. (search, refl))

back : (x : Interrupt) → loaded (saved x) 0 ≡ x
back x = load-save form x tt

again : (s : List ℕ) → Bytes s → length s ≡ 8 → at8 s 1 ≡ 0 → saved (loaded s 0) ≡ s
again s b l z = save-load form s b l z
