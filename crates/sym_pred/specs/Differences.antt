-- How two lists of literals differ.
use Rattle.std.specs.Prelude.{◌≡◌, ◌≢◌, ℕ, ◌<◌, not, List, length, slice_index_or, slice_set}
use Rattle.sym_pred.specs.declared.literal.Literal.{Literal}
use Rattle.sym_pred.specs.declared.facts.Difference.{Difference}
use Rattle.sym_pred.specs.declared.facts.Difference.TheVariants.{Nothing, One, Many}

-- The literal with the other outcome.
abbrev pub turned : Literal → Literal
turned literal = record literal { outcome = not literal.outcome }

-- How two lists of literals differ: not at all, in the outcome at one place, or in more.
abbrev pub IsDifference : List Literal → List Literal → Difference → Type 0
IsDifference left right Nothing = right ≡ left
IsDifference left right (One index) =
    (index < length left)
    × ((d : Literal) → right ≡ slice_set left index (turned (slice_index_or left index d)))
IsDifference left right Many =
    (right ≢ left)
    × ((index : ℕ) (d : Literal) → index < length left →
    right ≢ slice_set left index (turned (slice_index_or left index d)))
