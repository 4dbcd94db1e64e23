-- A card and a pair are what they hold, laid out, where their arrays are.
use Rattle.std.proofs.Common.{◌≡◌}
use Rattle.rules.specs.GuestSlots.{laid_guest, seen_guest, used_interrupt, zero_interrupt}
use Rattle.rules.specs.PairSlots.{laid, laid_card, seen, seen_card, used_message, zero_message}
use Rattle.rules.specs.declared.Card.{Card}
use Rattle.rules.specs.declared.Pair.{Pair}
use Rattle.slots.specs.Slots.{entries, padded}

pub card_laid : (c : Card) → c.guest ≡ laid_guest (seen_guest c.guest) → c.buffer ≡ padded 16 zero_interrupt (entries used_interrupt c.buffer) → c ≡ laid_card (seen_card c)
unfolding laid_card seen_card
card_laid c g b = λ k. record { guest = g k; epoch = c.epoch; buffer = b k }

pub pair_laid : (s : Pair) → s.p ≡ laid_card (seen_card s.p) → s.b ≡ laid_card (seen_card s.b)
    → s.link ≡ padded 58 zero_message (entries used_message s.link) → s.inbox ≡ padded 128 zero_message (entries used_message s.inbox) → s ≡ laid (seen s)
unfolding laid seen
pair_laid s p b l i =
    λ k. record { p = p k; phase = s.phase; b = b k; role = s.role; detected = s.detected; limit = s.limit; count = s.count; link = l k; acks = s.acks; inbox = i k }
