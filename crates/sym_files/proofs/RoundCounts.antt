-- How many full rounds come before the one that would hold a record.
use Rattle.std.proofs.Common.{◌≡◌, refl, arith, ℕ, ◌+◌, List, [], ◌∷◌, length, length-append}
use Rattle.std.proofs.lemmas.List.Elements.{All-head, All-tail}
use Rattle.sym_base.specs.declared.values.record.Record.{Record}
use Rattle.sym_files.specs.FileRounds.{AreFull, IsWithin, rounds_records}

abbrev Has : ℕ → List Record → Type 0
Has per round = length round ≡ per

-- The rounds after the first one, as rounds that begin where it ends.
after_first : (first per number : ℕ) (round : List Record) (rounds : List (List Record)) → length round ≡ per
    → IsWithin (first + length (rounds_records (round ∷ rounds))) per number
    → IsWithin (first + per + length (rounds_records rounds)) per number
after_first first per number round rounds full within = record {
  low = omega (arith, full, within.low, length-append round (rounds_records rounds));
  high = omega (arith, full, within.high, length-append round (rounds_records rounds));
}

-- The round that would hold a record is no later one.
none_before : (first per number : ℕ) (round : List Record) (rounds : List (List Record)) → length round ≡ per
    → IsWithin (first + 0) per number → IsWithin (first + length (rounds_records (round ∷ rounds))) per number → ⊥
none_before first per number round rounds full here there =
    omega (arith, full, here.high, there.low, length-append round (rounds_records rounds))

pub as_many : (first per number : ℕ) (rounds others : List (List Record)) → AreFull per rounds → AreFull per others
    → IsWithin (first + length (rounds_records rounds)) per number → IsWithin (first + length (rounds_records others)) per number
    → length rounds ≡ length others
as_many first per number [] [] full too here there = refl
as_many first per number [] (other ∷ others) full too here there =
    absurd (none_before first per number other others (All-head (Has per) other others too) here there)
as_many first per number (round ∷ rounds) [] full too here there =
    absurd (none_before first per number round rounds (All-head (Has per) round rounds full) there here)
as_many first per number (round ∷ rounds) (other ∷ others) full too here there =
    let own = All-head (Has per) round rounds full in
    let like = All-head (Has per) other others too in
    let rest = as_many (first + per) per number rounds others (All-tail (Has per) round rounds full) (All-tail (Has per) other others too)
    (after_first first per number round rounds own here) (after_first first per number other others like there) in
    omega (arith, rest)
