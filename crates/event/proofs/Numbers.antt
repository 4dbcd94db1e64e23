-- An event's bytes, fewer than eight or more, and its numbers in the order in which the rules write them.
use Rattle.std.proofs.Common.{◌≡◌, ℕ, ◌+◌, ◌*◌, ◌<◌, ◌≤◌, List, length, get_or, arith, None}
use borrow.Author.Tests.{eq-eqb, ne_eqb}
use Rattle.rules.specs.Bytes.{event_of, read_event}

pub too_short : (s : List ℕ) → length s < 8 → None ≡ read_event s
unfolding read_event
too_short s h = rw (ne_eqb (length s) 8 (λ e. omega (arith, e)))

pub too_long : (s : List ℕ) → 9 ≤ length s → None ≡ read_event s
unfolding read_event
too_long s h = rw (ne_eqb (length s) 8 (λ e. omega (arith, e)))

pub of_eight : (s : List ℕ) (o w : ℕ) → 8 ≤ length s → length s < 9 → o ≡ get_or s 2 0 + get_or s 3 0 * 256
    → w ≡ get_or s 4 0 + get_or s 5 0 * 256 + get_or s 6 0 * 65536 + get_or s 7 0 * 16777216 → event_of (get_or s 0 0) (get_or s 1 0) (record { 0 = o }) w ≡ read_event s
unfolding read_event
of_eight s o w h k e f =
    let l : length s ≡ 8 = omega arith in
    let e' : o ≡ get_or s 2 0 + 256 * get_or s 3 0 = omega arith in
    let f' : w ≡ get_or s 4 0 + 256 * get_or s 5 0 + 65536 * get_or s 6 0 + 16777216 * get_or s 7 0 = omega arith in
    rw (eq-eqb (length s) 8 l, e', f')
