use Rattle.std.proofs.Common.{◌≡◌, ◌≤◌, ◌*◌, ◌++◌, List, [], Bool, true, length, ap, sym, subst, ◌∙◌, arith}
use Rattle.std.proofs.lemmas.List.Elements.{All-nil}
use Rattle.sym_base.specs.declared.values.state.Outcome.{Outcome}
use Rattle.sym_check.specs.Plan.ScriptPlans.{ScriptPlan, script_plan}
use Rattle.sym_vector.proofs.ListsLemmas.{written_back}
use Rattle.sym_path.specs.Changing.{GoesOn}
use Rattle.sym_path.specs.declared.path.Path.{Path}
use Rattle.sym_explore.specs.Ending.{AreParted}
use Rattle.sym_explore.specs.Parting.{AllGoOn}
use Rattle.sym_explore.specs.Storing.{after_store}
use Rattle.sym_explore.proofs.AssignedLists.{on_ok}
use Rattle.sym_explore.proofs.StoredPaths.{clamped_run}
use Rattle.sym_explore.proofs.stores.clamp_each.Goals as goal

pub returns : goal.returns
returns c = λ ended ended_fit.
    let p : ScriptPlan = script_plan c.args.plan.now in
    let n = c.args.target.now.fault.no in
    let step : Outcome → Outcome = after_store p n c.args.target.now.place c.args.ready.now in
    let old : List Path = c.args.paths.now.items in
    let mid : List Path = c.store_each.new.paths in
    let more : List Path = c.store_each.new.out.items in
    let none : c.new-more.result.items ≡ [] = c.new-more.ensures.items in
    let these : c.deref_mut.result.now ≡ old = c.deref_mut.ensures.value in
    let same : length mid ≡ length old = omega (arith, c.store_each.auto.paths, ap length these) in
    let few : length more ≤ length old * 2 = omega (arith, c.in_ok-store_each.ensures.few, ap length these, ap length none) in
    let back = written_back _ _ old (omega (arith, c.store_each.auto.paths, ap length these)) (omega (arith, c.store_each.auto.paths, c.deref_mut.ensures.len)) in
    let these_parted : AreParted p c.args.target.now.clamps step old mid c.new-more.result.items more = subst (λ (ps : List Path). AreParted p c.args.target.now.clamps step ps mid c.new-more.result.items more) these c.in_ok-store_each.ensures.exact in
    let parted : AreParted p true step old mid [] more = subst (λ (ps : List Path). AreParted p true step old mid ps more) none (subst (λ (b : Bool). AreParted p b step old mid c.new-more.result.items more) c.requires.clamps these_parted) in
    let begun : AllGoOn c.new-more.result.items = subst AllGoOn (sym none) (All-nil (λ (q : Path). GoesOn q.end)) in
    let go = c.in_ok-store_each.ensures.stored c.requires.clamps begun in
    on_ok c.move_all.result
    (λ is. clamped_run p step n old mid more c.move_all.new.to.items ended (is ∙ ap (λ (ps : List Path). ps ++ more) back) parted c.in_ok-store_each.ensures.fits c.in_ok-store_each.ensures.others go.0 go.1 ended_fit same few)
    c.move_all.ensures.to
