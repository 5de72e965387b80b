-- What a contract sees of a script that breaks no rule, and its plan.
use Rattle.sym_base.specs.Trees.{ScriptTree, script_tree}
use Rattle.sym_check.specs.declared.checked.accepted.Checked.{Checked}
use Rattle.sym_check.specs.Plan.ScriptPlans.{ScriptPlan, script_plan}

abbrev pub checked_tree : Checked → ScriptTree
checked_tree checked = script_tree checked.script

abbrev pub checked_plan : Checked → ScriptPlan
checked_plan checked = script_plan checked.plan
