use Rattle.std.proofs.Common.{◌≡◌, ◌↔◌, Option, sym, subst}
use Rattle.std.specs.Prelude.{IfOk, IfSome, IsSome}
use Rattle.sym_check.specs.Meaning.Conditions.{test_truth}
use Rattle.sym_check.specs.Plan.ScriptPlans.{ScriptPlan}
use Rattle.sym_path.specs.declared.path.Path.{Path}
use Rattle.sym_path.specs.Fitting.{PathFits}
use Rattle.sym_path.specs.Following.{IsFollowed}
use Rattle.sym_path.specs.Possible.{IsPossiblePair}
use Rattle.sym_path.proofs.path.Path.followed_by.Goals as goal

pub go_on-requires-clause-first : goal.go_on-requires-clause-first
go_on-requires-clause-first c = subst (λ (s : ScriptPlan). PathFits s c.args.self) (sym c.plan.ensures.same) c.requires.first

pub go_on-requires-clause-second : goal.go_on-requires-clause-second
go_on-requires-clause-second c = subst (λ (s : ScriptPlan). PathFits s c.args.next.now) (sym c.plan.ensures.same) c.requires.second

pub returns-clause-possible : goal.returns-clause-possible
returns-clause-possible c = subst (λ (s : ScriptPlan). IfOk c.go_on.result (λ (found : Option Path). IsSome found ↔ IsPossiblePair (test_truth s.tests) c.args.self c.args.next.now)) c.plan.ensures.same c.go_on.ensures.possible

pub returns-clause-path : goal.returns-clause-path
returns-clause-path c = subst (λ (s : ScriptPlan). IfOk c.go_on.result (λ (found : Option Path). IfSome found (IsFollowed s c.args.self c.args.next.now))) c.plan.ensures.same c.go_on.ensures.path
