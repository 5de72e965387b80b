use Rattle.sym_base.specs.Trees.{script_tree}
use Rattle.sym_check.specs.Plan.ScriptPlans.{script_plan}
use Rattle.sym_check.proofs.PlanLaws.{bodies_are_fixed}
use Rattle.sym_check.proofs.PlannedScripts.{planned_well, planned_fields}
use Rattle.sym_check.proofs.ScriptsAgree.{planned_accepted}
use Rattle.sym_check.proofs.checked.accepted.Checked.plan.Goals as goal

pub returns-clause-accepted : goal.returns-clause-accepted
returns-clause-accepted c =
    let checked = c.args.self.now in
    planned_accepted (script_tree checked.script) (script_plan checked.plan) checked.planned

pub returns-clause-well_formed : goal.returns-clause-well_formed
returns-clause-well_formed c =
    let checked = c.args.self.now in
    planned_well (script_tree checked.script) (script_plan checked.plan) checked.lawful checked.planned

pub returns-clause-tests : goal.returns-clause-tests
returns-clause-tests c =
    let checked = c.args.self.now in
    bodies_are_fixed (script_plan checked.plan)
    (planned_well (script_tree checked.script) (script_plan checked.plan) checked.lawful checked.planned)

pub returns-clause-fields : goal.returns-clause-fields
returns-clause-fields c =
    let checked = c.args.self.now in
    planned_fields (script_tree checked.script) (script_plan checked.plan) checked.lawful checked.planned
