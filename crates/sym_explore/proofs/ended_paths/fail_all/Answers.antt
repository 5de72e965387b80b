use Rattle.std.proofs.Common.{◌≡◌, ◌++◌, ◌∙◌, List, length, ap, subst, arith}
use Rattle.std.specs.Prelude.{OnOk}
use Rattle.sym_vector.proofs.ListsLemmas.{written_back}
use Rattle.sym_path.specs.declared.path.Path.{Path}
use Rattle.sym_explore.specs.Running.{failed_paths}
use Rattle.sym_explore.proofs.ended_paths.fail_all.Goals as goal

pub returns-clause-ended : goal.returns-clause-ended
returns-clause-ended c =
    let old : List Path = c.args.paths.now.items in
    let mid : List Path = c.fail_each.new.paths in
    let failed : mid ≡ failed_paths c.args.fault old = c.fail_each.ensures ∙ ap (failed_paths c.args.fault) c.deref_mut.ensures.value in
    let back = written_back _ _ old (omega (arith, c.fail_each.auto.paths, ap length c.deref_mut.ensures.value)) (omega (arith, c.fail_each.auto.paths, c.deref_mut.ensures.len)) in
    subst (λ (ps : List Path). OnOk c.move_all.result (c.move_all.new.to.items ≡ c.args.ended.now.items ++ ps)) (back ∙ failed) c.move_all.ensures.to
