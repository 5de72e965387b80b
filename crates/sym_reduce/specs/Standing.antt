-- Files of saved runs that stand for records.
use Rattle.std.specs.Prelude.{◌≡◌, ◌≤◌, ℕ, List, [], ◌∷◌, ◌++◌, length}
use Rattle.std.specs.List.{All}
use Rattle.sym_base.specs.declared.values.record.Record.{Record}
use Rattle.sym_check.specs.Meaning.Validity.{IsRecord}
use Rattle.sym_check.specs.Plan.ScriptPlans.{ScriptPlan}
use Rattle.sym_run.specs.declared.saved.Saved.{Saved}
use Rattle.sym_run.specs.SavedRuns.{SavedStandsFor}
use Rattle.sym_file.specs.TakenTexts.{IsRunFile}

-- Files in order, each that of a saved run which stands for its own records, and the records of all
-- of them. The first record of the first file has the number `next`, that of each other one follows
-- the last of the file before it, and after all of them `end` follows.
pub data StandInOrder (script : List ℕ) (p : ScriptPlan) (max_bytes : ℕ)
    : ℕ → List (List ℕ) → ℕ → List Record → Type 0 where
  no_file : (next : ℕ) → StandInOrder script p max_bytes next [] next []
  one_more : (next : ℕ) (bytes : List ℕ) (files : List (List ℕ)) (saved : Saved)
      (records : List Record) (end : ℕ) (others : List Record)
      → length bytes ≤ max_bytes
      → IsRunFile script p bytes saved
      → saved.first ≡ next
      → SavedStandsFor p records saved
      → All (IsRecord p) records
      → StandInOrder script p max_bytes saved.next files end others
      → StandInOrder script p max_bytes next (bytes ∷ files) end (records ++ others)
