use Rattle.std.proofs.Common.{◌≡◌, ◌∙◌, ◌++◌, ◌∷◌, [], List, length, map, ap, sym, arith}
use Rattle.std.proofs.lemmas.List.{map-append}
use Rattle.sym_vector.proofs.ListsLemmas.{written_back}
use Rattle.sym_path.specs.declared.path.Path.{Path}
use Rattle.sym_explore.specs.Assigning.{with_parts}
use Rattle.sym_explore.proofs.assignments.keep_all.Goals as goal

pub returns : goal.returns
returns c =
    let f : Path → Path = λ path. with_parts path c.args.cell c.args.values.now in
    let front : List Path = c.pop.new.self.items in
    let last : Path = c.in-Some.last in
    let whole : c.args.paths.now.items ≡ front ++ last ∷ [] = c.in-Some.ensures.items in
    let these : c.deref_mut.result.now ≡ front = c.deref_mut.ensures.value in
    let back = written_back _ _ front (omega (arith, c.keep_each.auto.paths, ap length these)) (omega (arith, c.keep_each.auto.paths, c.deref_mut.ensures.len)) in
    let kept : c.keep_each.new.paths ≡ map f front = c.in_ok-keep_each.ensures ∙ ap (map f) these in
    let own : c.put_parts.new.path ≡ f last = c.in_ok-put_parts.ensures in
    c.in_ok-push.ensures.items
    ∙ (λ i. back i ++ own i ∷ [])
    ∙ ap (λ (ps : List Path). ps ++ f last ∷ []) kept
    ∙ sym (map-append f front (last ∷ []))
    ∙ ap (map f) (sym whole)
