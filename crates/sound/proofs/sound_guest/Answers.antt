use Rattle.std.proofs.Common.{◌≡◌, refl, true, List, [], ◌∷◌, arith, rules}
use Rattle.rules.proofs.GuestSlots.{laid-seen}
use Rattle.rules.specs.GuestSlots.{seen_guest, sound_in_memory, tight_guest, used_op}
use Rattle.rules.specs.GuestSound.{sound_guest}
use Rattle.rules.specs.declared.OpNo.{OpNo}
use Rattle.slots.specs.Slots.{entries, every}
use Rattle.sound.proofs.sound_guest.Goals as goal

-- a test that is always true
every_true : (os : List OpNo) → every (λ (o : OpNo). true) os ≡ true
unfolding every
every_true [] = refl
every_true (o ∷ os) = every_true os

pub returns-clause-is : goal.returns-clause-is
unfolding sound_in_memory tight_guest sound_guest seen_guest
returns-clause-is c = grind (arith, c.tight.ensures.is (λ o. true) (λ o b h. search rules), every_true (entries used_op c.args.g.now.table))

pub returns-clause-laid : goal.returns-clause-laid
unfolding sound_in_memory
returns-clause-laid c = λ h.
    let tight : tight_guest c.args.g.now ≡ true = grind (arith, returns-clause-is c) in
    laid-seen c.args.g.now (search rules) (search rules) tight
