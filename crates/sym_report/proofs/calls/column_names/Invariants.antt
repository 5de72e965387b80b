-- The names so far are those of the first columns.
use Rattle.std.proofs.Common.{◌≡◌, take, map}
use Rattle.sym_check.specs.Plan.ScriptPlans.{ColumnOf, column_plan}
use Rattle.sym_report.proofs.calls.column_names.Given as goal

abbrev pub invariant-columns : goal.invariant-columns
invariant-columns l =
    l.names.items
    ≡ map (λ (c : ColumnOf). c.name) (map column_plan (take l.column-index l.column-items))
