use Rattle.std.proofs.Common.{◌≡◌, ap, subst, sym}
use Rattle.sym_check.specs.Plan.CondPlans.{CondPlan, Compared, cond_plan}
use Rattle.sym_check.specs.Plan.FixedPlans.{num_plan}
use Rattle.sym_check.specs.Checking.KnownValues.{known_values}
use Rattle.sym_check.specs.Plan.LinePlans.{term_plan}
use Rattle.sym_check.specs.Plan.ScriptPlans.{script_plan}
use Rattle.sym_explore.specs.Evaluating.{IsEvaluated}
use Rattle.sym_explore.proofs.conditions.evaluate.Goals as goal

pub returns-in-Compare : goal.returns-in-Compare
returns-in-Compare c =
    let is : cond_plan c.args.condition.now ≡ Compared c.in-Compare.compare (term_plan c.in-Compare.term) (num_plan c.in-Compare.right) = ap cond_plan c.in-Compare.is in
    subst (λ (d : CondPlan). IsEvaluated (script_plan c.args.plan.now) (known_values c.args.known.now) d c.args.args.now c.compared.result) (sym is) (c.compared.ensures c.args.args.now)
