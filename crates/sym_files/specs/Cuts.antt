-- Files that were cut between two records.
use Rattle.std.specs.Prelude.{◌≡◌, ◌≤◌, ℕ, List, [], ◌∷◌, ◌++◌, length}
use Rattle.sym_table.specs.Reading.{Row}
use Rattle.sym_files.specs.FileRecords.{FileRules, rows_by}

-- The file isn't too large. Its rows are a header and then these.
pub record Holds (rules : FileRules) (header : Row) (rows : List Row) (bytes : List ℕ)
    : Type 0 where
  pub small : length bytes ≤ rules.max_bytes
  pub are : rows_by rules bytes ≡ header ∷ rows

-- One or more files that have the same header and, in order, these rows after it.
pub data AreCutTo (rules : FileRules) (header : Row) : List Row → List (List ℕ) → Type 0 where
  in_one : (rows : List Row) (bytes : List ℕ)
      → Holds rules header rows bytes
      → AreCutTo rules header rows (bytes ∷ [])
  one_more : (rows others : List Row) (bytes : List ℕ) (files : List (List ℕ))
      → Holds rules header rows bytes
      → AreCutTo rules header others files
      → AreCutTo rules header (rows ++ others) (bytes ∷ files)
