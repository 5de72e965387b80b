-- The columns so far and those of the pairs that are left are those of all pairs.
use Rattle.std.proofs.Common.{◌≡◌, ◌++◌}
use Rattle.std.specs.Iterator.Adapters.{zip_first, zip_second}
use Rattle.std.specs.Slice.Iter.{iter_rest}
use Rattle.sym_check.specs.Plan.ScriptPlans.{script_plan}
use Rattle.sym_report.specs.ReportRows.{field_columns, key_columns}
use Rattle.sym_report.proofs.keys.key_columns.Given as goal

abbrev pub invariant-values : goal.invariant-values
invariant-values l =
    let rest = l.field-iterator in
    l.columns.items ++ field_columns (script_plan l.plan) (iter_rest (zip_first rest)) (iter_rest (zip_second rest))
    ≡ key_columns (script_plan l.plan) l.key
