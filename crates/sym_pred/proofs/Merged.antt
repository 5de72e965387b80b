-- Two lists of literals in order, walked side by side.
use Rattle.std.proofs.Common.{Bool, true, false, not, List, [], ◌∷◌, Option, Some, None}
use Rattle.std.specs.declared.cmp.Ordering.{Ordering}
use Rattle.std.specs.declared.cmp.Ordering.TheVariants.{Less, Equal, Greater}
use Rattle.std.specs.Option.{option_map}
use Rattle.std.specs.Prelude.{if◌then◌else◌}
use Rattle.sym_pred.specs.declared.literal.Literal.{Literal}
use Rattle.sym_pred.specs.Facts.{atom_cmp}
use Rattle.sym_pred.specs.Literals.{atom_of}

abbrev pub same_outcome : Bool → Bool → Bool
same_outcome true outcome = outcome
same_outcome false outcome = not outcome

-- The step of a merge by how the first atoms stand to each other.
abbrev pub merge_step : Ordering → Bool → Literal → Literal → Option (List Literal) → Option (List Literal) → Option (List Literal) → Option (List Literal)
merge_step Less same x y left both right = option_map (λ rest. x ∷ rest) left
merge_step Equal same x y left both right = if same then option_map (λ rest. x ∷ rest) both else None
merge_step Greater same x y left both right = option_map (λ rest. y ∷ rest) right

abbrev pub merged_with : (List Literal → Option (List Literal)) → Literal → List Literal → List Literal → Option (List Literal)
merged_with later x xs [] = Some (x ∷ xs)
merged_with later x xs (y ∷ ys) = merge_step (atom_cmp (atom_of x) (atom_of y)) (same_outcome x.outcome y.outcome) x y (later (y ∷ ys)) (later ys) (merged_with later x xs ys)

-- The literals of both lists in order; none where an atom has two outcomes.
abbrev pub merged : List Literal → List Literal → Option (List Literal)
merged [] ys = Some ys
merged (x ∷ xs) ys = merged_with (merged xs) x xs ys
