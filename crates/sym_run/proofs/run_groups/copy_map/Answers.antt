use Rattle.std.proofs.Common.{◌≡◌, ◌∙◌, [], ◌∷◌, ◌++◌, ap, ap₂, sym, subst, append_assoc}
use Rattle.indexmap.specs.IndexMap.{insert_entry}
use Rattle.sym_base.specs.declared.values.value.Key.{Key}
use Rattle.sym_run.specs.Chained.{Chained}
use Rattle.sym_check.specs.Meaning.Groups.{is_key}
use Rattle.sym_plain.specs.Pairs.{HaveDistinctKeys}
use Rattle.sym_plain.proofs.Pairs.{insert-next}
use Rattle.sym_run.proofs.run_groups.copy_map.Goals as goal

pub entries-preserved : goal.entries-preserved
entries-preserved c =
    let done = c.entries.copied.entries in
    let left = c.next.new.self in
    let p : Key × Chained = (c.in-Some.key.now, c.in-Some.chain.now) in
    let all : done ++ p ∷ left ≡ c.args.map.now.entries =
    ap (λ ps. done ++ ps) (sym c.in-Some.ensures.steps) ∙ c.entries.invariant in
    let apart = subst HaveDistinctKeys (sym all) c.iter-key-items.ensures.unique in
    ap (λ ps. ps ++ left) (c.in_ok-insert.ensures.entries
    ∙ ap₂ (insert_entry is_key done) c.in_ok-copy.ensures c.in_ok-copy-2.ensures
    ∙ insert-next done p left apart)
    ∙ append_assoc done (p ∷ []) left
    ∙ all
