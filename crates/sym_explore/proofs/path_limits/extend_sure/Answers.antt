use Rattle.std.proofs.Common.{◌≡◌, List, length, ap, subst, arith}
use Rattle.std.specs.List.{AllZip}
use Rattle.sym_check.specs.Checking.CheckedScripts.{checked_plan}
use Rattle.sym_check.specs.Plan.ScriptPlans.{ScriptPlan, script_plan}
use Rattle.sym_vector.proofs.ListsLemmas.{written_back}
use Rattle.sym_path.specs.declared.path.Path.{Path}
use Rattle.sym_path.specs.Settling.{IsSettling}
use Rattle.sym_explore.specs.Sure.{IsSteppedOn}
use Rattle.sym_explore.proofs.Extended.{explored_of, record_of, small_of, when_answered}
use Rattle.sym_explore.proofs.Limited.{is_longer}
use Rattle.sym_explore.proofs.SureSteps.{sure_explored}
use Rattle.sym_explore.proofs.path_limits.extend_sure.Goals as goal

pub step_each-requires-clause-rec : goal.step_each-requires-clause-rec
step_each-requires-clause-rec c =
    record_of (script_plan c.plan.result.now) (checked_plan c.args.checked.now) c.args.rec.now c.plan.ensures.same c.requires.rec

pub returns-clause-longer : goal.returns-clause-longer
returns-clause-longer c =
    let q : ScriptPlan = script_plan c.plan.result.now in
    let p : ScriptPlan = checked_plan c.args.checked.now in
    let same : q ≡ p = c.plan.ensures.same in
    let small = small_of q p same c.plan.ensures.accepted.few in
    let old : List Path = c.into_vec-paths.result.items in
    let new : List Path = c.step_each.new.paths in
    let these : c.deref_mut.result.now ≡ old = c.deref_mut.ensures.value in
    let back = written_back _ _ old (omega (arith, c.step_each.auto.paths, ap length these)) (omega (arith, c.step_each.auto.paths, c.deref_mut.ensures.len)) in
    let zip : AllZip (IsSteppedOn q c.args.rec.now) old new = subst (λ (ps : List Path). AllZip (IsSteppedOn q c.args.rec.now) ps new) these c.in_ok-step_each.ensures in
    let explored = explored_of q p c.args.rec.now old c.args.segment new same c.into_vec-paths.ensures (sure_explored q c.args.rec.now old new zip) in
    when_answered c.settle.result
    (λ longer settling. is_longer p c.args.rec.now c.args.segment new longer small explored (subst (λ (ps : List Path). IsSettling ps longer) back settling))
    c.settle.ensures
