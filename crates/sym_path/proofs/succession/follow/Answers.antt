use Rattle.std.proofs.Common.{◌≡◌, ◌↔◌, Option, sym, subst}
use Rattle.std.specs.Prelude.{IfOk, IfSome, IsSome}
use Rattle.sym_check.specs.Meaning.Conditions.{test_truth}
use Rattle.sym_check.specs.Plan.ScriptPlans.{ScriptPlan}
use Rattle.sym_path.specs.declared.path.Path.{Path}
use Rattle.sym_path.specs.Fitting.{PathFits}
use Rattle.sym_path.specs.Following.{IsFollowed}
use Rattle.sym_path.specs.Possible.{IsPossiblePair}
use Rattle.sym_path.proofs.succession.follow.Goals as goal

pub follow_by-requires-clause-first : goal.follow_by-requires-clause-first
follow_by-requires-clause-first c = subst (λ (s : ScriptPlan). PathFits s c.args.p.now) (sym c.plan.ensures.same) c.requires.first

pub follow_by-requires-clause-second : goal.follow_by-requires-clause-second
follow_by-requires-clause-second c = subst (λ (s : ScriptPlan). PathFits s c.args.q.now) (sym c.plan.ensures.same) c.requires.second

pub returns-clause-possible : goal.returns-clause-possible
returns-clause-possible c = subst (λ (s : ScriptPlan). IfOk c.follow_by.result (λ (found : Option Path). IsSome found ↔ IsPossiblePair (test_truth s.tests) c.args.p.now c.args.q.now)) c.plan.ensures.same c.follow_by.ensures.possible

pub returns-clause-path : goal.returns-clause-path
returns-clause-path c = subst (λ (s : ScriptPlan). IfOk c.follow_by.result (λ (found : Option Path). IfSome found (IsFollowed s c.args.p.now c.args.q.now))) c.plan.ensures.same c.follow_by.ensures.path
