use Rattle.std.proofs.Common.{◌≡◌, ◌≤◌, ◌+◌, ◌*◌, List, Bool, false, length, ap, sym, subst, arith}
use Rattle.std.specs.Prelude.{OnOk}
use Rattle.sym_base.specs.declared.values.state.Outcome.{Outcome}
use Rattle.sym_check.specs.Plan.ScriptPlans.{ScriptPlan, script_plan}
use Rattle.sym_vector.proofs.ListsLemmas.{written_back}
use Rattle.sym_path.specs.declared.path.Path.{Path}
use Rattle.sym_explore.specs.Ending.{AreMoved, AreParted}
use Rattle.sym_explore.specs.Running.{WereRun}
use Rattle.sym_explore.specs.Storing.{after_store}
use Rattle.sym_explore.proofs.AssignedLists.{on_ok_both}
use Rattle.sym_explore.proofs.EndedLists.{none_moved}
use Rattle.sym_explore.proofs.StoredPaths.{were_run}
use Rattle.sym_explore.proofs.stores.end_each.Goals as goal

pub returns-then-branch : goal.returns-then-branch
returns-then-branch c =
    let p : ScriptPlan = script_plan c.args.plan.now in
    let n = c.args.target.now.fault.no in
    let step : Outcome → Outcome = after_store p n c.args.target.now.place c.args.ready.now in
    let old : List Path = c.args.paths.now.items in
    let mid : List Path = c.store_each.new.paths in
    let before : List Path = c.args.ended.now.items in
    let between : List Path = c.store_each.new.out.items in
    let these : c.deref_mut.result.now ≡ old = c.deref_mut.ensures.value in
    let same : length mid ≡ length old = omega (arith, c.store_each.auto.paths, ap length these) in
    let few : length between ≤ length before + length old * 2 = omega (arith, c.in_ok-store_each.ensures.few, ap length these) in
    let back = written_back _ _ old (omega (arith, c.store_each.auto.paths, ap length these)) (omega (arith, c.store_each.auto.paths, c.deref_mut.ensures.len)) in
    let these_parted : AreParted p c.args.target.now.clamps step old mid before between = subst (λ (ps : List Path). AreParted p c.args.target.now.clamps step ps mid before between) these c.in_ok-store_each.ensures.exact in
    let parted : AreParted p false step old mid before between = subst (λ (b : Bool). AreParted p b step old mid before between) c.requires.ends these_parted in
    subst (λ (ps : List Path). WereRun p step n 1 2 old ps before between) (sym back)
    (were_run p step n 2 old mid mid before between between parted c.in_ok-store_each.ensures.fits c.in_ok-store_each.ensures.others same few c.in_ok-store_each.ensures.faults (none_moved mid between) (c.in_ok-store_each.ensures.next c.if-branch.true))

pub returns : goal.returns
returns c =
    let p : ScriptPlan = script_plan c.args.plan.now in
    let n = c.args.target.now.fault.no in
    let step : Outcome → Outcome = after_store p n c.args.target.now.place c.args.ready.now in
    let old : List Path = c.args.paths.now.items in
    let mid : List Path = c.store_each.new.paths in
    let before : List Path = c.args.ended.now.items in
    let between : List Path = c.store_each.new.out.items in
    let new : List Path = c.move_ended.new.paths.items in
    let after : List Path = c.move_ended.new.ended.items in
    let these : c.deref_mut.result.now ≡ old = c.deref_mut.ensures.value in
    let same : length mid ≡ length old = omega (arith, c.store_each.auto.paths, ap length these) in
    let few : length between ≤ length before + length old * 2 = omega (arith, c.in_ok-store_each.ensures.few, ap length these) in
    let back = written_back _ _ old (omega (arith, c.store_each.auto.paths, ap length these)) (omega (arith, c.store_each.auto.paths, c.deref_mut.ensures.len)) in
    let moved : OnOk c.move_ended.result (AreMoved mid new between after) = subst (λ (ps : List Path). OnOk c.move_ended.result (AreMoved ps new between after)) back c.move_ended.ensures.moved in
    let these_parted : AreParted p c.args.target.now.clamps step old mid before between = subst (λ (ps : List Path). AreParted p c.args.target.now.clamps step ps mid before between) these c.in_ok-store_each.ensures.exact in
    let parted : AreParted p false step old mid before between = subst (λ (b : Bool). AreParted p b step old mid before between) c.requires.ends these_parted in
    on_ok_both c.move_ended.result moved c.move_ended.ensures.going
    (λ m g. were_run p step n 2 old mid new before between after parted c.in_ok-store_each.ensures.fits c.in_ok-store_each.ensures.others same few c.in_ok-store_each.ensures.faults m g)
