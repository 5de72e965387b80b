-- The columns made so far are the first ones.
use Rattle.std.proofs.Common.{◌≡◌, take, map}
use Rattle.sym_check.specs.Plan.ScriptPlans.{ColumnOf, column_plan, script_plan}
use Rattle.sym_plain.specs.Shown.{show_column}
use Rattle.sym_plain.proofs.report.shown.shown_columns.Given as goal

abbrev pub invariant-columns : goal.invariant-columns
invariant-columns l =
    l.columns.items
    ≡ map (λ (c : ColumnOf). show_column (script_plan l.plan) l.state c.value) (map column_plan (take l.column-index l.column-items))
