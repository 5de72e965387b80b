use Rattle.std.proofs.Common.{◌∙◌, [], ap, ap₂, sym}
use Rattle.indexmap.specs.IndexSet.{insert_all, insert_key}
use Rattle.indexmap.proofs.SetLemmas.{set_all_distinct}
use Rattle.sym_check.specs.Meaning.Groups.{is_key}
use Rattle.sym_check.proofs.Keys.{keys_equiv}
use Rattle.sym_plain.proofs.groups.copy_keys.Goals as goal

pub keys-init : goal.keys-init
keys-init c =
    ap₂ (insert_all is_key) c.in_ok-copied.ensures.empty (c.into_iter-key-iterator.ensures.into_iter_gives ∙ c.iter-key-items.ensures.rest)
    ∙ set_all_distinct keys_equiv [] c.args.keys.now.keys c.iter-key-items.ensures.unique

pub keys-preserved : goal.keys-preserved
keys-preserved c =
    let done = c.keys.copied.keys in
    ap (λ l. insert_all is_key l c.next.new.self) (c.in_ok-insert.ensures.keys ∙ ap (insert_key is_key done) c.in_ok-copy.ensures)
    ∙ ap (insert_all is_key done) (sym c.in-Some.ensures.steps)
    ∙ c.keys.invariant
