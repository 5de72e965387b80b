-- The groups of one sequential pass, over records and over files.
use Rattle.std.specs.Prelude.{◌≡◌, ℕ, List}
use Rattle.sym_base.specs.declared.values.record.Record.{Record}
use Rattle.sym_base.specs.declared.values.value.Key.{Key}
use Rattle.sym_base.specs.declared.values.state.Outcome.{Outcome}
use Rattle.sym_check.specs.Meaning.Groups.{pass}
use Rattle.sym_check.specs.Plan.ScriptPlans.{ScriptPlan}
use Rattle.sym_run.specs.Applying.{AreValid}
use Rattle.sym_files.specs.FileRecords.{FileRules}
use Rattle.sym_files.specs.Passing.{AllRead, Holds}

-- The groups are those of one sequential pass over these records.
abbrev pub ArePassed : ScriptPlan → List (Key × Outcome) → List Record → Type 0
ArePassed p groups records = groups ≡ pass p records

-- The same of groups that runs can be applied to: their states are valid.
pub record AreLedBy (p : ScriptPlan) (groups : List (Key × Outcome)) (records : List Record)
    : Type 0 where
  pub passed : ArePassed p groups records
  pub valid : AreValid p groups

-- The groups are those of one sequential pass over the records of files that the names may hold.
abbrev pub PassedAll : ScriptPlan → FileRules → Holds → List (List ℕ) → List (Key × Outcome)
    → Type 0
PassedAll p rules holds names groups =
    AllRead p rules holds names 1 (λ records. groups ≡ pass p records)
