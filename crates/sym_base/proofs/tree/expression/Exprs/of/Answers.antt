-- The last expression goes before those that came after it.
use Rattle.std.proofs.Common.{◌≡◌, List, [], ◌∷◌, ◌++◌, map, ap, sym, ◌∙◌}
use Rattle.std.proofs.lemmas.List.{map-append}
use Rattle.sym_base.specs.Trees.{ExprTree, More, expr_tree, exprs_tree, exprs_before}
use Rattle.sym_base.proofs.ExprLists.{before-last}
use Rattle.sym_base.proofs.tree.expression.Exprs.of.Goals as goal

pub expressions-preserved : goal.expressions-preserved
expressions-preserved c =
    let before = map expr_tree c.pop.new.self.items in
    let rest = exprs_tree c.expressions.list in
    let shown : map expr_tree c.expressions.items.items ≡ before ++ expr_tree c.in-Some.last ∷ [] =
    ap (map expr_tree) c.in-Some.ensures.items ∙ map-append expr_tree c.pop.new.self.items (c.in-Some.last ∷ []) in
    ap (λ e. exprs_before before (More (expr_tree e) (exprs_tree c.in_ok-new.field-0.value))) c.in_ok-first.ensures.ok
    ∙ ap (λ es. exprs_before before (More (expr_tree c.in-Some.last) (exprs_tree es))) c.in_ok-new.ensures.ok
    ∙ sym (before-last before (expr_tree c.in-Some.last) rest)
    ∙ ap (λ (xs : List ExprTree). exprs_before xs rest) (sym shown) ∙ c.expressions.invariant
