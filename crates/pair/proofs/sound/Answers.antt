use Rattle.std.proofs.Common.{◌≡◌, true, length, arith, rules}
use Rattle.rules.specs.GuestSlots.{seen_guest}
use Rattle.rules.specs.PairSlots.{seen, seen_card, sound_pair, tight_pair}
use Rattle.rules.specs.Sound.{sound, sound_limits, sound_message, sound_wires}
use Rattle.pair.proofs.Laid.{pair_laid}
use Rattle.pair.proofs.sound.Goals as goal

pub returns-clause-is : goal.returns-clause-is
unfolding sound_pair tight_pair sound sound_limits sound_wires seen seen_card seen_guest
returns-clause-is c = grind (arith, c.tight.ensures.is sound_message (λ m b h. search rules), c.tight-2.ensures.is sound_message (λ m b h. search rules))

pub returns-clause-laid : goal.returns-clause-laid
returns-clause-laid c = λ h.
    let p : c.sound_card.result ≡ true = grind arith in
    let b : c.sound_card-2.result ≡ true = grind arith in
    let on_link : c.tight.result ≡ true = grind arith in
    let in_inbox : c.tight-2.result ≡ true = grind arith in
    let link : length c.args.pair.now.link ≡ 58 = search rules in
    let inbox : length c.args.pair.now.inbox ≡ 128 = search rules in
    pair_laid c.args.pair.now (c.sound_card.ensures.laid p) (c.sound_card-2.ensures.laid b) (rw link at c.tight.ensures.laid on_link) (rw inbox at c.tight-2.ensures.laid in_inbox)
