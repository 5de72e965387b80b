use Rattle.std.proofs.Common.{map}
use Rattle.sym_check.specs.Plan.FixedPlans.{fixed_plan}
use Rattle.sym_check.specs.Meaning.FixedValues.{fixed_values}
use Rattle.sym_check.specs.Checking.KnownValues.{known_values}
use Rattle.sym_explore.proofs.EvaluatedConditions.{call_evaluated}
use Rattle.sym_explore.proofs.TestsHeld.{values_made}
use Rattle.sym_explore.proofs.conditions.called.Goals as goal

pub returns-in-Ok : goal.returns-in-Ok
returns-in-Ok c = λ p known.
    let es = map fixed_plan c.args.expressions.now in
    let k = known_values c.args.known.now in
    call_evaluated p k c.args.test c.args.cell es c.set_values.new.values known
    (values_made (fixed_values k es) c.set_values.new.values c.in-Ok.ensures)
