-- Ascending numbers, as a loop over the table finds them at place i, and at the end.
use Rattle.std.proofs.Common.{◌≡◌, arith, is_lt, is_le, nat_cmp, ℕ, ◌+◌, ◌<◌, ◌≤◌, true, false, ◌&&◌, List, length, get_or, drop, add-one}
use Rattle.std.proofs.lemmas.Bool.Decides.{nat_tests}
use lib.Dec.{leb, ltb}
use lib.ListN.{drop_of_length-le}
use lib.Seq.{drop-cons}
use Rattle.rules.specs.GuestSlots.{zero_op}
use Rattle.rules.specs.GuestSound.{ascending}
use Rattle.rules.specs.declared.OpNo.{OpNo}

-- what the order of operation numbers answers
less : (a b : ℕ) → is_lt (nat_cmp a b) ≡ ltb a b
less a b = grind (arith, nat_tests)

at_most : (a b : ℕ) → is_le (nat_cmp a b) ≡ leb a b
at_most a b = grind (arith, nat_tests)

module _ (n last : ℕ) (xs : List OpNo) (i : ℕ) where
  module _ (here : i < length xs) where
    pub ascending_on : is_lt (nat_cmp n (get_or xs i zero_op).0) && is_le (nat_cmp (get_or xs i zero_op).0 last) ≡ true → ascending n last (drop i xs) ≡ ascending (get_or xs i zero_op).0 last (drop (i + 1) xs)
    unfolding ascending
    ascending_on e = rw (add-one, drop-cons xs i zero_op here, (rw (less, at_most) at e))

    pub ascending_broken : is_lt (nat_cmp n (get_or xs i zero_op).0) && is_le (nat_cmp (get_or xs i zero_op).0 last) ≡ false → ascending n last (drop i xs) ≡ false
    unfolding ascending
    ascending_broken e = rw (drop-cons xs i zero_op here, (rw (less, at_most) at e))

  pub ascending_over : length xs ≤ i → ascending n last (drop i xs) ≡ true
  unfolding ascending
  ascending_over over = rw (drop_of_length-le xs over)
