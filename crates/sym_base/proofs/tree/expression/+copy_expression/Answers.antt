-- The copy goes after those before it, and what is left is no deeper.
use Rattle.std.proofs.Common.{rules, ◌≡◌, List, [], ◌∷◌, ◌++◌, map, ap, ◌∙◌}
use Rattle.std.proofs.lemmas.List.{map-append}
use Rattle.sym_base.specs.declared.tree.expression.Exprs.{the_lemmas}
use Rattle.sym_base.specs.Trees.{ExprTree, More, expr_tree, exprs_tree, exprs_before}
use Rattle.sym_base.proofs.ExprLists.{before-last}
use Rattle.sym_base.proofs.tree.expression.+copy_expression.Goals as goal

pub Exprs::copies-expressions-preserved : goal.Exprs::copies-expressions-preserved
Exprs::copies-expressions-preserved t c =
    let before = map expr_tree c.expressions.copied.items in
    let rest = exprs_tree c.deref-left.result.now in
    let shown : map expr_tree c.push.new.self.items ≡ before ++ expr_tree c.in_ok-copy.copy ∷ [] =
    ap (map expr_tree) c.in_ok-push.ensures.items ∙ map-append expr_tree c.expressions.copied.items (c.in_ok-copy.copy ∷ []) in
    let seen : More (expr_tree c.in_ok-copy.copy) rest ≡ exprs_tree c.expressions.left.now = search rules in (
      search (rules, the_lemmas),
      ap (λ (xs : List ExprTree). exprs_before xs rest) shown
          ∙ before-last before (expr_tree c.in_ok-copy.copy) rest ∙ ap (exprs_before before) seen ∙ c.expressions.invariant.1,
    )
