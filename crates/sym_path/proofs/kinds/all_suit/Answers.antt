use Rattle.std.proofs.Common.{◌≤◌, length, refl, arith}
use Rattle.sym_check.specs.Plan.ScriptPlans.{script_plan}
use Rattle.sym_pred.specs.Literals.{literals}
use Rattle.sym_path.specs.Fitting.{Suits}
use Rattle.sym_path.proofs.Admits.{literals_counted}
use Rattle.sym_path.proofs.Checks.{whole_list}
use Rattle.sym_path.proofs.kinds.all_suit.Goals as goal

pub returns : goal.returns
returns c =
    let past : length (literals c.args.facts.now) ≤ c.literals.index = omega (arith, literals_counted c.args.facts.now, c.len-index-end.ensures, c.literals-test.false) in
    (λ e. whole_list (Suits (script_plan c.args.plan.now) c.args.kinds.now) (literals c.args.facts.now) c.literals.index past c.literals.invariant, λ h. refl)
