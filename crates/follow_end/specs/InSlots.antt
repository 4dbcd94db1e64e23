-- BEND on the pair's arrays, for any arrays whatever: what the code does. On a sound pair it is the rule, laid out (proofs/Turn.antt).
use Rattle.std.specs.Prelude.{[]}
use Rattle.rules.specs.GuestSlots.{zero_interrupt}
use Rattle.rules.specs.Pair.{next_epoch}
use Rattle.rules.specs.declared.Card.{Card}
use Rattle.rules.specs.declared.Guest.{Guest}
use Rattle.slots.specs.Slots.{padded}

-- the card in its next epoch, its buffer's slots all free
unfoldable pub enters_in : Card → Guest → Card
enters_in c g = record { guest = g; epoch = next_epoch c.epoch; buffer = padded 16 zero_interrupt [] }
