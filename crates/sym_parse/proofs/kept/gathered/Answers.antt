-- The loop goes on as the values that are left.
use Rattle.std.proofs.Common.{◌≡◌, ◌-◌, true, List, [], ◌∷◌, ◌++◌, length, map, Ok, Err, ap, sym, ◌∙◌, subst, arith}
use Rattle.std.proofs.lemmas.List.{length-map, map-append}
use Rattle.std.proofs.lemmas.Result.{err_from_is_err_and}
use Rattle.sym_base.specs.Trees.{ExprTree, expr_tree}
use Rattle.sym_lex.specs.declared.symbol.Symbol.TheVariants.{Comma}
use Rattle.sym_parse.specs.Lexemes.{lexeme_of}
use Rattle.sym_parse.specs.Limits.{most}
use Rattle.sym_parse.specs.Parsing.Expressions.{expression, further, values_from}
use Rattle.sym_parse.specs.Steps.{Input, and_then, passed, sees_sign}
use Rattle.sym_parse.specs.Views.{input}
use Rattle.sym_parse.proofs.Gathering.{gathered, values-begin, values-refused, gathering-goes, gathering-stops}
use Rattle.sym_parse.proofs.kept.gathered.Goals as goal

pub returns-in_err-first-clause-reads : goal.returns-in_err-first-clause-reads
returns-in_err-first-clause-reads c =
    let p = err_from_is_err_and c.from_residual.result c.from_residual.ensures.1 in
    rw (p.1, p.2) (λ refused. values-refused (expression most c.args.room) (input c.args.cursor.now) c.in_err-first.field-0.0 (c.in_err-first.ensures.reads refused))

pub values-init : goal.values-init
values-init c =
    let item = expression most c.args.room in
    let i = input c.args.cursor.now in
    let j = input c.expression.new.cursor in
    let counted : length i.rest ≡ length c.args.cursor.now.rest.now = length-map c.args.cursor.now.rest.now (lexeme_of c.args.cursor.now.source.now) in
    let found : map expr_tree c.push.new.self.items ≡ expr_tree c.in_ok-first.first ∷ [] =
    ap (map expr_tree) (c.in_ok-push.ensures.items ∙ ap (λ xs. xs ++ c.in_ok-first.first ∷ []) c.new-found.ensures.items) in (
      length i.rest,
      omega (arith, counted, c.in_ok-first.ensures.shorter),
      omega (arith, c.in_ok-first.ensures.shorter),
      values-begin item i j (expr_tree c.in_ok-first.first) c.in_ok-first.ensures.reads
          ∙ ap (λ (xs : List ExprTree). and_then (further item (values_from item (length i.rest)) j) (gathered xs)) (sym found),
    )

pub returns-in_err-value-clause-reads : goal.returns-in_err-value-clause-reads
returns-in_err-value-clause-reads c =
    let item = expression most c.args.room in
    let j = input c.values.cursor in
    let seen : sees_sign Comma j ≡ true = sym c.values-test.ensures.is in
    let p = err_from_is_err_and c.from_residual-in_err-value.result c.from_residual-in_err-value.ensures.1 in
    rw (p.1, p.2) (λ refused.
    let failed : item (passed j) ≡ Err c.in_err-value.field-0.0 = subst (λ (k : Input). item k ≡ Err c.in_err-value.field-0.0) c.bump.ensures.next (c.in_err-value.ensures.reads refused) in
    c.values.invariant.3 ∙ gathering-stops item c.values.invariant.0 (map expr_tree c.values.found.items) c.in_err-value.field-0.0 j (omega (arith, c.values.invariant.1)) seen failed)

pub values-preserved : goal.values-preserved
values-preserved c =
    let item = expression most c.args.room in
    let j = input c.values.cursor in
    let k = input c.expression-in-values.new.cursor in
    let n = c.values.invariant.0 in
    let seen : sees_sign Comma j ≡ true = sym c.values-test.ensures.is in
    let read : item (passed j) ≡ Ok (expr_tree c.in_ok-value.value, k) = subst (λ (m : Input). item m ≡ Ok (expr_tree c.in_ok-value.value, k)) c.bump.ensures.next c.in_ok-value.ensures.reads in
    let found : map expr_tree c.push-in-values.new.self.items ≡ map expr_tree c.values.found.items ++ expr_tree c.in_ok-value.value ∷ [] =
    ap (map expr_tree) c.in_ok-push-2.ensures.items ∙ map-append expr_tree c.values.found.items (c.in_ok-value.value ∷ []) in (
      n - 1,
      omega (arith, c.values.invariant.1, c.in_ok-value.ensures.shorter, c.bump.ensures.left, c.values-test.ensures.some),
      omega (arith, c.values.invariant.2, c.in_ok-value.ensures.shorter, c.bump.ensures.left),
      c.values.invariant.3
          ∙ gathering-goes item n (map expr_tree c.values.found.items) (expr_tree c.in_ok-value.value) j k (omega (arith, c.values.invariant.1)) seen read
          ∙ ap (λ (xs : List ExprTree). and_then (further item (values_from item (n - 1)) k) (gathered xs)) (sym found),
    )
