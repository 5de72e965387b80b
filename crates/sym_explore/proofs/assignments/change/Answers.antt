use Rattle.std.proofs.Common.{ℕ, sym, subst}
use Rattle.sym_check.specs.declared.plan.statement.Do.{Do}
use Rattle.sym_check.specs.Plan.DoPlans.{SetEnum, do_plan}
use Rattle.sym_check.specs.Meaning.FixedValues.{Environment}
use Rattle.sym_check.specs.Checking.KnownValues.{known_values}
use Rattle.sym_check.specs.Plan.ScriptPlans.{ScriptPlan, script_plan}
use Rattle.sym_explore.specs.Assigning.{HasLabel}
use Rattle.sym_explore.specs.Knowing.{DoIsKnown}
use Rattle.sym_explore.proofs.AssignedKnown.{set_label_is}
use Rattle.sym_explore.proofs.assignments.change.Goals as goal

pub set_label-requires-clause-cell : goal.set_label-requires-clause-cell
set_label-requires-clause-cell c =
    let p : ScriptPlan = script_plan c.args.plan.now in
    let k : Environment = known_values c.args.known.now in
    let well : DoIsKnown p k (SetEnum c.in-SetEnum.cell c.in-SetEnum.label) = subst (λ (d : Do). DoIsKnown p k (do_plan d)) c.in-SetEnum.is c.requires.well in
    subst (λ (l : ℕ). HasLabel p c.in-SetEnum.cell l) (sym c.label.ensures) (set_label_is p k c.in-SetEnum.cell c.in-SetEnum.label well)
