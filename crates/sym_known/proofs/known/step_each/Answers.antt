use Rattle.std.proofs.Common.{◌<◌, length, sym, ap, subst, arith, ◌∙◌}
use Rattle.sym_base.specs.declared.values.state.Outcome.{Outcome}
use Rattle.sym_check.specs.Checking.CheckedScripts.{checked_plan}
use Rattle.sym_vector.proofs.Changes.{Changed-here, Changed-length, Changed-next, Changed-whole}
use Rattle.sym_known.proofs.KnownSteps.{IsStep}
use Rattle.sym_known.proofs.known.step_each.Goals as goal

pub outcomes-preserved : goal.outcomes-preserved
outcomes-preserved c =
    let R : Outcome → Outcome → Type 0 = IsStep (checked_plan c.args.checked.now) c.args.rec.now in
    let below : c.outcomes.outcome-index < length c.outcomes.outcomes = omega (arith, Changed-length R _ _ c.outcomes.outcome-index c.outcomes.invariant) in
    Changed-next R _ _ c.outcomes.outcome-index c.outcome-item.result c.advance.new.outcome below c.in_ok-advance.ensures c.outcomes.invariant

pub returns-clause-steps : goal.returns-clause-steps
returns-clause-steps c =
    let R : Outcome → Outcome → Type 0 = IsStep (checked_plan c.args.checked.now) c.args.rec.now in
    Changed-whole R c.args.outcomes.now c.outcomes.outcomes c.outcomes.outcome-index c.outcomes-test.false c.outcomes.invariant
