use Rattle.std.proofs.Common.{arith}
use Rattle.sym_base.specs.Trees.{script_tree}
use Rattle.sym_check.specs.Plan.ScriptPlans.{script_plan}
use Rattle.sym_check.proofs.ScriptsAgree.{planned_accepted}
use Rattle.sym_check.proofs.checked.accepted.Checked.path_bound.Goals as goal

pub returns-clause-few : goal.returns-clause-few
returns-clause-few c =
    let checked = c.args.self.now in
    let few = (planned_accepted (script_tree checked.script) (script_plan checked.plan) checked.planned).few in
    let same = checked.bound in
    grind (arith)
