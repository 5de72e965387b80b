-- What files come to as a saved run.
use Rattle.std.specs.Prelude.{◌≡◌, ℕ, List}
use Rattle.sym_base.specs.declared.values.record.Record.{Record}
use Rattle.sym_base.specs.declared.values.value.Key.{Key}
use Rattle.sym_check.specs.Plan.ScriptPlans.{ScriptPlan}
use Rattle.sym_run.specs.Chained.{Chained}
use Rattle.sym_run.specs.Runs.{AreClosed, AreTight, GroupsFit, GroupsStandFor}
use Rattle.sym_run.specs.SavedRuns.{SavedStandsFor}
use Rattle.sym_run.specs.declared.saved.Saved.{Saved}
use Rattle.sym_files.specs.FileRecords.{FileRules}
use Rattle.sym_files.specs.Passing.{AllRead, Holds}
use Rattle.sym_files.specs.Rounds.{AreWorkers}

-- The groups' chains are tight, keep no records and stand for these ones, and the workers who make a
-- run are in their range.
pub record AreSummed (p : ScriptPlan) (limit : ℕ) (groups : List (Key × Chained))
    (workers : ℕ) (records : List Record) : Type 0 where
  pub fits : GroupsFit p groups
  pub tight : AreTight p limit groups
  pub closed : AreClosed groups
  pub stand : GroupsStandFor p records groups
  pub in_range : AreWorkers workers

-- The saved run stands for the records of files that the names may hold, numbered from `first` on.
abbrev pub SavedAll : ScriptPlan → FileRules → Holds → List (List ℕ) → ℕ → Saved → Type 0
SavedAll p rules holds names first saved =
    AllRead p rules holds names first
    (λ records. (saved.first ≡ first) × SavedStandsFor p records saved)
