use Rattle.std.proofs.Common.{◌≡◌, Bool, true, false, cond, ℕ, List, [], ◌∷◌, Option, Some, None, find, refl, sym, ap, ◌∙◌, rules}
use Rattle.rules.specs.Messages.{of_kind}
use Rattle.rules.specs.declared.EpochNo.{EpochNo}
use Rattle.rules.specs.declared.Message.{Message}
use Rattle.inbox.specs.Words.{word_of}
use Rattle.slots.specs.Slots.{pick}
use Rattle.inbox.proofs.first_word.Goals as goal

-- the word of what was found, else w
word_in : Option Message → ℕ → ℕ
word_in (Some m) w = m.word
word_in None w = w

word_found : (k : ℕ) (e : EpochNo) (ms : List Message) (w : ℕ) → word_in (find (of_kind k e) ms) w ≡ word_of k e ms w
unfolding word_in word_of
word_found k e [] w = refl
word_found k e (m ∷ ms) w = go (of_kind k e m) (word_found k e ms w)
  where
    go : (b : Bool) → word_in (find (of_kind k e) ms) w ≡ word_of k e ms w → word_in (cond b (Some m) (find (of_kind k e) ms)) w ≡ pick b m.word (word_of k e ms w)
    go true h = refl
    go false h = h

pub returns-in-Some : goal.returns-in-Some
unfolding word_in
returns-in-Some c =
    let found = sym c.in-Some.is ∙ c.find.ensures (of_kind c.args.kind c.args.e) (λ m b h. search rules) in
    ap (λ o. word_in o c.args.word) found ∙ word_found c.args.kind c.args.e _ c.args.word

pub returns-in-None : goal.returns-in-None
unfolding word_in
returns-in-None c =
    let found = sym c.in-None.is ∙ c.find.ensures (of_kind c.args.kind c.args.e) (λ m b h. search rules) in
    ap (λ o. word_in o c.args.word) found ∙ word_found c.args.kind c.args.e _ c.args.word
