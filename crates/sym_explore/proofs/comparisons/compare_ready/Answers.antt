use Rattle.sym_check.specs.Plan.ScriptPlans.{script_plan}
use Rattle.sym_explore.proofs.ComparedPaths.{compared_splits, if_ok_both}
use Rattle.sym_explore.specs.Branches.{answered, Splits}
use Rattle.sym_explore.specs.Comparing.{WasCompared, number_compares}
use Rattle.sym_explore.proofs.comparisons.compare_ready.Goals as goal

pub returns-clause-exact : goal.returns-clause-exact
returns-clause-exact c = λ n.
    let p = script_plan c.args.plan.now in
    let r = c.args.ready.now in
    let bound = c.args.bound.now in
    if_ok_both c.compare_wide.result
    (WasCompared p c.in-Some.wide bound c.args.path.now c.args.out.now.items c.compare_wide.new.path c.compare_wide.new.out.items)
    (Splits p (answered n (number_compares r bound)) c.args.path.now c.args.out.now.items c.compare_wide.new.path c.compare_wide.new.out.items)
    (λ last compared. compared_splits p r bound c.in-Some.wide c.args.path.now c.compare_wide.new.path c.args.out.now.items c.compare_wide.new.out.items last c.in-Some.ensures compared n)
    c.compare_wide.ensures.exact
