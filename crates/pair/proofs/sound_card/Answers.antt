use Rattle.std.proofs.Common.{◌≡◌, true, length, arith, rules}
use Rattle.rules.specs.GuestSlots.{seen_guest, sound_in_memory}
use Rattle.rules.specs.GuestSound.{proper}
use Rattle.rules.specs.PairSlots.{seen_card, tight_card}
use Rattle.rules.specs.Sound.{sound_buffer}
use Rattle.pair.proofs.Laid.{card_laid}
use Rattle.pair.proofs.sound_card.Goals as goal

pub returns-clause-is : goal.returns-clause-is
unfolding sound_in_memory tight_card sound_buffer seen_card seen_guest
returns-clause-is c = grind (arith, c.tight.ensures.is proper (λ i b h. search rules))

pub returns-clause-laid : goal.returns-clause-laid
returns-clause-laid c = λ h.
    let guest : c.sound_guest.result ≡ true = grind arith in
    let buffer : c.tight.result ≡ true = grind arith in
    let sixteen : length c.args.c.now.buffer ≡ 16 = search rules in
    card_laid c.args.c.now (c.sound_guest.ensures.laid guest) (rw sixteen at c.tight.ensures.laid buffer)
