-- The records of files in order, or the first problem of them.
use Rattle.std.specs.Prelude.{ℕ, ◌+◌, List, [], ◌∷◌, ◌++◌, length, Result, Ok}
use Rattle.sym_base.specs.declared.values.record.Record.{Record}
use Rattle.sym_check.specs.Meaning.Arithmetic.{◌>>=◌}
use Rattle.sym_check.specs.Plan.ScriptPlans.{ScriptPlan}
use Rattle.sym_files.specs.declared.error.PassErr.{PassErr}
use Rattle.sym_files.specs.FileRecords.{FileRules, IsFine, HasProblem, file_records}

-- Files without a problem and the records of all of them, whose numbers run on from `first`.
pub data AllFine (p : ScriptPlan) (rules : FileRules)
    : ℕ → List (List ℕ) → List Record → Type 0 where
  no_file : (first : ℕ) → AllFine p rules first [] []
  one_more : (first : ℕ) (bytes : List ℕ) (files : List (List ℕ)) (records others : List Record)
      → IsFine p rules first bytes records
      → AllFine p rules (first + length records) files others
      → AllFine p rules first (bytes ∷ files) (records ++ others)

-- A file has a problem, and those before it have none. Files are numbered from `file` on, records
-- from `first` on.
pub data FirstProblem (p : ScriptPlan) (rules : FileRules)
    : ℕ → ℕ → List (List ℕ) → PassErr → Type 0 where
  here : (file first : ℕ) (bytes : List ℕ) (files : List (List ℕ)) (why : PassErr)
      → HasProblem p rules file first bytes why
      → FirstProblem p rules file first (bytes ∷ files) why
  later : (file first : ℕ) (bytes : List ℕ) (files : List (List ℕ)) (records : List Record)
      (why : PassErr)
      → IsFine p rules first bytes records
      → FirstProblem p rules (file + 1) (first + length records) files why
      → FirstProblem p rules file first (bytes ∷ files) why

-- The records of files, or the first problem. Files are numbered from `file` on, records from
-- `first` on.
abbrev pub records_in : ScriptPlan → FileRules → ℕ → ℕ → List (List ℕ)
    → Result (List Record) PassErr
records_in p rules file first [] = Ok []
records_in p rules file first (bytes ∷ files) = do
  records ← file_records p rules file first bytes
  others ← records_in p rules (file + 1) (first + length records) files
  Ok (records ++ others)
