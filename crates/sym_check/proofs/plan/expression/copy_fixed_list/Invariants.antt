-- The values copied so far are the first ones, boxes aside.
use Rattle.std.proofs.Common.{◌≡◌, take, map}
use Rattle.sym_check.specs.Plan.FixedPlans.{fixed_plan}
use Rattle.sym_check.proofs.plan.expression.copy_fixed_list.Given as goal

abbrev pub invariant-values : goal.invariant-values
invariant-values l = map fixed_plan l.copied.items ≡ map fixed_plan (take l.value-index l.value-items)
