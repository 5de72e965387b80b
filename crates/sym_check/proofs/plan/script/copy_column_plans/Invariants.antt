-- The columns copied so far are the first ones, boxes aside.
use Rattle.std.proofs.Common.{◌≡◌, take, map}
use Rattle.sym_check.specs.Plan.ScriptPlans.{column_plan}
use Rattle.sym_check.proofs.plan.script.copy_column_plans.Given as goal

abbrev pub invariant-columns : goal.invariant-columns
invariant-columns l = map column_plan l.copied.items ≡ map column_plan (take l.column-index l.column-items)
