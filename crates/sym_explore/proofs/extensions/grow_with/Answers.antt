use Rattle.std.proofs.Common.{List, subst, sym}
use Rattle.sym_check.specs.Checking.CheckedScripts.{checked_plan}
use Rattle.sym_check.specs.Plan.ScriptPlans.{script_plan}
use Rattle.sym_path.specs.declared.path.Path.{Path}
use Rattle.sym_explore.specs.Growing.{IsLonger}
use Rattle.sym_explore.proofs.Extended.{explored_of, record_of, small_of}
use Rattle.sym_explore.proofs.Limited.{is_longer}
use Rattle.sym_explore.proofs.extensions.grow_with.Goals as goal

pub explore_each-requires-clause-rec : goal.explore_each-requires-clause-rec
explore_each-requires-clause-rec c =
    record_of (script_plan c.plan.result.now) (checked_plan c.args.checked.now) c.args.rec.now c.plan.ensures.same c.requires.rec

pub returns-clause-longer : goal.returns-clause-longer
returns-clause-longer c =
    let p = checked_plan c.args.checked.now in
    let old : List Path = c.args.segment in
    let explored = explored_of (script_plan c.plan.result.now) p c.args.rec.now c.into_vec.result.items old c.in_ok-explored.explored.items c.plan.ensures.same c.into_vec.ensures c.in_ok-explored.ensures.explored in
    let small = small_of (script_plan c.plan.result.now) p c.plan.ensures.same c.plan.ensures.accepted.few in
    subst (λ (segment : List Path). IsLonger p c.args.rec.now old segment) (sym c.told.ensures.same)
    (is_longer p c.args.rec.now old c.in_ok-explored.explored.items c.in_ok-settled.settled small explored c.in_ok-settled.ensures)
