-- Marks at the numbers of two lists.
use Rattle.std.proofs.Common.{◌≡◌, refl, ℕ, Bool, true, List, [], ◌∷◌, ◌++◌, slice_set}
use Rattle.sym_reads.specs.NamedFields.{with_marks}

-- Marks at the numbers of two lists are made by one list after the other.
pub marks_append : (xs ys : List ℕ) (marks : List Bool) → with_marks (xs ++ ys) marks ≡ with_marks ys (with_marks xs marks)
marks_append [] ys marks = refl
marks_append (x ∷ xs) ys marks = marks_append xs ys (slice_set marks x true)
