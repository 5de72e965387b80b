use Rattle.std.proofs.Common.{◌≡◌, ◌≤◌, List, length, sym, ap, subst, arith}
use Rattle.std.specs.List.{AllZip}
use Rattle.sym_check.specs.Plan.ScriptPlans.{ScriptPlan, script_plan}
use Rattle.sym_vector.proofs.ListsLemmas.{written_back}
use Rattle.sym_path.specs.declared.path.Path.{Path}
use Rattle.sym_explore.specs.Counting.{made_paths, most_grown}
use Rattle.sym_explore.specs.Growing.{IsExplored}
use Rattle.sym_explore.specs.Sure.{IsSteppedOn}
use Rattle.sym_explore.proofs.SureSteps.{sure_each_few, sure_explored}
use Rattle.sym_explore.proofs.extensions.explore_each.Goals as goal

pub returns-then-all_end_sure-clause-explored : goal.returns-then-all_end_sure-clause-explored
returns-then-all_end_sure-clause-explored c =
    let p : ScriptPlan = script_plan c.args.plan.now in
    let old : List Path = c.args.paths.items in
    let new : List Path = c.step_each.new.paths in
    let these : c.deref_mut.result.now ≡ old = c.deref_mut.ensures.value in
    let back = written_back _ _ old (omega (arith, c.step_each.auto.paths, ap length these)) (omega (arith, c.step_each.auto.paths, c.deref_mut.ensures.len)) in
    let zip : AllZip (IsSteppedOn p c.args.rec.now) old new = subst (λ (ps : List Path). AllZip (IsSteppedOn p c.args.rec.now) ps new) these c.in_ok-step_each.ensures in
    subst (λ (ps : List Path). IsExplored p c.args.rec.now old ps) (sym back) (sure_explored p c.args.rec.now old new zip)

pub returns-then-all_end_sure-clause-each_few : goal.returns-then-all_end_sure-clause-each_few
returns-then-all_end_sure-clause-each_few c =
    let p : ScriptPlan = script_plan c.args.plan.now in
    let old : List Path = c.args.paths.items in
    let new : List Path = c.step_each.new.paths in
    let these : c.deref_mut.result.now ≡ old = c.deref_mut.ensures.value in
    let back = written_back _ _ old (omega (arith, c.step_each.auto.paths, ap length these)) (omega (arith, c.step_each.auto.paths, c.deref_mut.ensures.len)) in
    let zip : AllZip (IsSteppedOn p c.args.rec.now) old new = subst (λ (ps : List Path). AllZip (IsSteppedOn p c.args.rec.now) ps new) these c.in_ok-step_each.ensures in
    subst (λ (ps : List Path). length ps ≤ most_grown (made_paths p) old) (sym back) (sure_each_few p c.args.rec.now old new zip)
