use mathlib.Core.Path.{refl}
use Rattle.forms.proofs.Lawful.{array_lawful, word_lawful}
use Rattle.forms.proofs.Stretch.{◌next◌, stretch}
use Rattle.layout.proofs.Fields.{interrupt_lawful, operation_lawful}
use Rattle.layout.proofs.Sized.{guest_sized}
use Rattle.layout.specs.Image.{GuestSized}
use Rattle.put_image.proofs.put_guest.Goals as goal

-- the arrays' lengths come from the types
pub returns : goal.returns
returns c =
    let sized : GuestSized c.args.g = guest_sized c.args.g _ c.well_formed.0 in
    (stretch c.put_front.ensures refl
    next stretch c.put_array.ensures ((array_lawful word_lawful 8).form.wide _ sized.regs)
    next stretch c.put_array-2.ensures ((array_lawful word_lawful 64).form.wide _ sized.mem)
    next stretch c.put_array-3.ensures ((array_lawful operation_lawful 16).form.wide _ sized.table)
    next stretch c.put_array-4.ensures ((array_lawful interrupt_lawful 17).form.wide _ sized.queue)).wrote
