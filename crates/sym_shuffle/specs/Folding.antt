-- Rows that are folded record by record.
use Rattle.std.specs.Prelude.{◌≡◌, List, Option, Some, None, Result, Ok, Err}
use Rattle.sym_base.specs.declared.values.value.Key.{Key}
use Rattle.sym_base.specs.declared.values.record.Record.{Record}
use Rattle.sym_base.specs.declared.values.state.Outcome.{Outcome}
use Rattle.sym_check.specs.Plan.ScriptPlans.{ScriptPlan}
use Rattle.sym_plain.specs.Pairs.{after_records}
use Rattle.sym_table.specs.declared.bad.Bad.{Bad}

-- All rows are records, and the groups are those after these; or the first row that is none was
-- found.
abbrev pub Folds : ScriptPlan → Result (List Record) Bad → List (Key × Outcome) → Option Bad
    → List (Key × Outcome) → Type 0
Folds p (Ok records) old bad new = (bad ≡ None) × (new ≡ after_records p records old)
Folds p (Err first) old bad new = bad ≡ Some first
