use Rattle.std.proofs.Common.{◌≡◌, List, length, ap, sym, subst, arith, rules}
use Rattle.std.specs.Prelude.{OnOk}
use Rattle.std.specs.List.{AllZip}
use Rattle.sym_base.specs.declared.values.state.Outcome.{Outcome}
use Rattle.sym_check.specs.Plan.DoPlans.{DoPlan, do_plan}
use Rattle.sym_check.specs.Checking.KnownValues.{known_values}
use Rattle.sym_check.specs.Plan.ScriptPlans.{ScriptPlan, script_plan}
use Rattle.sym_vector.proofs.ListsLemmas.{written_back}
use Rattle.sym_path.specs.declared.path.Path.{Path}
use Rattle.sym_explore.specs.Assigning.{EndsNone}
use Rattle.sym_explore.specs.Ending.{IsChanged}
use Rattle.sym_explore.specs.Running.{DoWasRun}
use Rattle.sym_explore.specs.Stepping.{after_do}
use Rattle.sym_explore.proofs.AssignedLists.{changed_run, on_ok, run_none}
use Rattle.sym_explore.proofs.assignments.assign_all.Goals as goal

pub returns-in_default : goal.returns-in_default
returns-in_default c =
    let p : ScriptPlan = script_plan c.args.context.now.plan.now in
    let d : DoPlan = do_plan c.args.statement.now in
    let none : EndsNone d = search rules in
    let step : Outcome → Outcome = after_do p (known_values c.args.context.now.known.now) c.args.context.now.no d in
    let old : List Path = c.args.lists.now.paths.items in
    let new : List Path = c.change_each.new.paths in
    let before : List Path = c.args.lists.now.ended.items in
    let these : c.deref_mut.result.now ≡ old = c.deref_mut.ensures.value in
    let back = written_back _ _ old (omega (arith, c.change_each.auto.paths, ap length these)) (omega (arith, c.change_each.auto.paths, c.deref_mut.ensures.len)) in
    let zip : OnOk c.change_each.result (AllZip (IsChanged p step) old new) = subst (λ (ps : List Path). OnOk c.change_each.result (AllZip (IsChanged p step) ps new)) these (c.change_each.ensures c.args.context.now.no) in
    subst (λ (ps : List Path). OnOk c.change_each.result (DoWasRun p (known_values c.args.context.now.known.now) c.args.context.now.no d old ps before before)) (sym back)
    (on_ok c.change_each.result (λ z. run_none p step c.args.context.now.no d old new before before none (changed_run p step c.args.context.now.no old new before z c.requires.paths.fits c.requires.paths.going c.requires.paths.ended_fit)) zip)
