use Rattle.std.proofs.Common.{◌≡◌, ◌↔◌, subst}
use Rattle.std.specs.Prelude.{IsTrue}
use Rattle.sym_check.specs.Checking.CheckedScripts.{checked_plan}
use Rattle.sym_check.specs.Meaning.Conditions.{test_truth}
use Rattle.sym_check.specs.Plan.ScriptPlans.{ScriptPlan}
use Rattle.sym_path.specs.Admitting.{Admits, admits}
use Rattle.sym_path.proofs.path.Path.admits.Goals as goal

pub returns-clause-exact : goal.returns-clause-exact
returns-clause-exact c = subst (λ (p : ScriptPlan). IsTrue c.admits_by.result ↔ Admits (test_truth p.tests) c.args.self.now.when c.args.state.now) c.plan.ensures.same c.admits_by.ensures.exact

pub returns-clause-computed : goal.returns-clause-computed
returns-clause-computed c = subst (λ (p : ScriptPlan). c.admits_by.result ≡ admits (test_truth p.tests) c.args.self.now.when c.args.state.now.cells) c.plan.ensures.same c.admits_by.ensures.computed
