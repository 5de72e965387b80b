-- By the agreement of the rules with the function that tries them.
use Rattle.std.proofs.Common.{rules, ◌≡◌, Ok, Err}
use Rattle.sym_base.specs.Trees.{script_tree}
use Rattle.sym_check.specs.Plan.ScriptPlans.{script_plan}
use Rattle.sym_check.specs.Rules.Scripts.{BreaksScript, plan_of}
use Rattle.sym_check.specs.declared.elaborate.error.CheckErr.{CheckErr}
use Rattle.sym_check.proofs.PlannedScripts.{accepted_answer, broken_answer}
use Rattle.sym_check.proofs.ScriptsAgree.{planned_accepted, planned_breaks, accepted_planned, breaks_planned}
use Rattle.sym_check.proofs.checked.check.Goals as goal

pub returns-clause-means : goal.returns-clause-means
returns-clause-means c =
    rw (c.of.ensures.plan) (planned_accepted (script_tree c.args.script) (script_plan c.in_ok-plan.plan) c.in_ok-plan.ensures)

pub returns-clause-broken : goal.returns-clause-broken
returns-clause-broken c f b =
    rw (c.of.ensures.plan) (broken_answer (script_tree c.args.script) f (Ok (script_plan c.in_ok-plan.plan)) b c.in_ok-plan.ensures)

pub returns-clause-only : goal.returns-clause-only
returns-clause-only c p i =
    rw (c.of.ensures.plan) (accepted_answer (script_tree c.args.script) p (Ok (script_plan c.in_ok-plan.plan)) i c.in_ok-plan.ensures)

pub returns-in_err-plan-clause-breaks : goal.returns-in_err-plan-clause-breaks
returns-in_err-plan-clause-breaks c =
    let known : (f : CheckErr) → plan_of (script_tree c.args.script) ≡ Err f → BreaksScript (script_tree c.args.script) f =
    planned_breaks (script_tree c.args.script) in search (rules, known)

pub returns-in_err-plan-clause-broken : goal.returns-in_err-plan-clause-broken
returns-in_err-plan-clause-broken c f b =
    let planned : plan_of (script_tree c.args.script) ≡ Err f = breaks_planned (script_tree c.args.script) f b in search rules

pub returns-in_err-plan-clause-only : goal.returns-in_err-plan-clause-only
returns-in_err-plan-clause-only c p i =
    let planned : plan_of (script_tree c.args.script) ≡ Ok p = accepted_planned (script_tree c.args.script) p i in search rules
