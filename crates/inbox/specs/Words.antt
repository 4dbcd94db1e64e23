-- The word of a message in the inbox.
use Rattle.std.specs.Prelude.{List, [], ◌∷◌, ℕ}
use Rattle.rules.specs.Messages.{of_kind}
use Rattle.rules.specs.declared.EpochNo.{EpochNo}
use Rattle.rules.specs.declared.Message.{Message}
use Rattle.slots.specs.Slots.{pick}

-- "the first .. of B's epoch in the inbox .., else the word": the word of the first message of kind k and of epoch e
unfoldable pub word_of : ℕ → EpochNo → List Message → ℕ → ℕ
word_of k e [] w = w
word_of k e (m ∷ ms) w = pick (of_kind k e m) m.word (word_of k e ms w)
