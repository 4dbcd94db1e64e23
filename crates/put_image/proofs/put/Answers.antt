use mathlib.Core.Path.{refl}
use Rattle.forms.proofs.Lawful.{array_lawful}
use Rattle.forms.proofs.Stretch.{◌next◌, stretch}
use Rattle.layout.proofs.Fields.{guest_lawful, interrupt_lawful, message_lawful}
use Rattle.layout.proofs.Sized.{pair_sized}
use Rattle.layout.specs.Image.{PairSized, image_bytes}
use Rattle.put_image.proofs.put.Goals as goal

-- the arrays' lengths come from the types
pub returns : goal.returns
unfolding image_bytes
returns c =
    let sized : PairSized c.args.s = pair_sized c.args.s _ c.well_formed.0 in
    (stretch c.put_header.ensures refl
    next stretch c.put_guest.ensures (guest_lawful.form.wide _ sized.p)
    next stretch c.put_guest-2.ensures (guest_lawful.form.wide _ sized.b)
    next stretch c.put_array.ensures ((array_lawful interrupt_lawful 16).form.wide _ sized.buffer)
    next stretch c.put_array-2.ensures ((array_lawful interrupt_lawful 16).form.wide _ sized.own)
    next stretch c.put_array-3.ensures ((array_lawful message_lawful 58).form.wide _ sized.link)
    next stretch c.put_array-4.ensures ((array_lawful message_lawful 128).form.wide _ sized.inbox)).wrote
