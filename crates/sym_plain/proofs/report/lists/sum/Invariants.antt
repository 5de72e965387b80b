-- The sum of the numbers so far, each of which is at most 2^63 in size.
use Rattle.std.proofs.Common.{◌≡◌, ◌*◌, ◌^◌, take, pos, ◌+ℤ◌, neg_ℤ, ◌≤ℤ◌, fold}
use Rattle.sym_plain.proofs.report.lists.sum.Given as goal

abbrev pub invariant-numbers : goal.invariant-numbers
invariant-numbers l =
    (l.sum ≡ fold ◌+ℤ◌ (pos 0) (take l.number-index l.numbers))
    × (neg_ℤ (pos (2 ^ 63 * l.number-index)) ≤ℤ l.sum)
    × (l.sum ≤ℤ pos (2 ^ 63 * l.number-index))
