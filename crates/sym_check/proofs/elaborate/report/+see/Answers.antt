-- One more stands before the others, and what is left is no deeper.
use Rattle.std.proofs.Common.{rules, ◌≡◌, ◌∙◌, ap, sym, List, [], ◌∷◌, ◌++◌, map, Ok}
use Rattle.std.proofs.lemmas.List.{map-append}
use Rattle.sym_base.specs.Trees.{ExprsTree, More, expr_tree, exprs_tree}
use Rattle.sym_base.specs.declared.tree.expression.Exprs.{the_lemmas}
use Rattle.sym_check.specs.Elaborate.Reports.{Seen, see, see_all}
use Rattle.sym_check.specs.Checking.Showing.{seen_plan}
use Rattle.sym_check.proofs.Done.{before_all}
use Rattle.sym_check.proofs.Seen.{one_more_seen}
use Rattle.sym_check.proofs.elaborate.report.+see.Goals as goal

pub see_all-values-preserved : goal.see_all-values-preserved
see_all-values-preserved t c =
    let s = c.args.scope.now in
    let before = map seen_plan c.values.found in
    let one = seen_plan c.in_ok-seen.seen in
    let rest = exprs_tree c.deref-rest.result.now in
    let shown : map seen_plan c.push.new.self ≡ before ++ one ∷ [] =
    ap (map seen_plan) c.in_ok-push.ensures.ok ∙ map-append seen_plan c.values.found (c.in_ok-seen.seen ∷ []) in
    let first : exprs_tree c.values.rest.now ≡ More (expr_tree c.deref.result.now) rest = search rules in
    let came : see s (expr_tree c.deref.result.now) ≡ Ok one = c.in_ok-seen.ensures in record {
      same =
          c.values.invariant.same
          ∙ ap (λ (es : ExprsTree). before_all before (see_all s es)) first
          ∙ one_more_seen s (expr_tree c.deref.result.now) rest one before came
          ∙ ap (λ (xs : List Seen). before_all xs (see_all s rest)) (sym shown);
      within = search (rules, the_lemmas);
    }
