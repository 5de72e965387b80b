use Rattle.std.proofs.Common.{◌≡◌, ◌↔◌, sym, subst}
use Rattle.std.specs.Prelude.{IsTrue}
use Rattle.sym_check.specs.Meaning.Conditions.{test_truth}
use Rattle.sym_check.specs.Plan.ScriptPlans.{ScriptPlan}
use Rattle.sym_path.specs.Fitting.{PathFits}
use Rattle.sym_path.specs.Possible.{IsPossiblePair}
use Rattle.sym_path.proofs.possible_pairs.possible.Goals as goal

pub possible_by-requires-clause-first : goal.possible_by-requires-clause-first
possible_by-requires-clause-first c = subst (λ (s : ScriptPlan). PathFits s c.args.p.now) (sym c.plan.ensures.same) c.requires.first

pub possible_by-requires-clause-second : goal.possible_by-requires-clause-second
possible_by-requires-clause-second c = subst (λ (s : ScriptPlan). PathFits s c.args.q.now) (sym c.plan.ensures.same) c.requires.second

pub returns : goal.returns
returns c = subst (λ (s : ScriptPlan). IsTrue c.possible_by.result ↔ IsPossiblePair (test_truth s.tests) c.args.p.now c.args.q.now) c.plan.ensures.same c.possible_by.ensures
