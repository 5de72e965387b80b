-- A chain's loop goes on as the chain of the tokens that are left.
use Rattle.std.proofs.Common.{◌≡◌, suc, ◌-◌, ◌<◌, length, ◌∙◌, sym, ap, subst, rules, arith, Ok, Err, Some}
use Rattle.std.proofs.lemmas.List.{length-map}
use Rattle.std.proofs.lemmas.Result.{err_from_is_err_and}
use Rattle.sym_base.specs.Trees.{Bin, expr_tree}
use Rattle.sym_parse.specs.Lexemes.{lexeme_of}
use Rattle.sym_parse.specs.Limits.{most}
use Rattle.sym_parse.specs.Parsing.Expressions.{chain_from, lines, op_in}
use Rattle.sym_parse.specs.Parsing.Levels.{item_at, op_at}
use Rattle.sym_parse.specs.Steps.{next, passed, place}
use Rattle.sym_parse.specs.Views.{input}
use Rattle.sym_parse.proofs.Chains.{chain_begins, chain_refused, chain_ends, chain_goes, chain_stops}
use Rattle.sym_parse.proofs.Turns.{chain_is}
use Rattle.sym_parse.proofs.expression.+expression.Goals as goal

pub chain-returns-in_err-left-clause-reads : goal.chain-returns-in_err-left-clause-reads
chain-returns-in_err-left-clause-reads t c =
    let ops = op_at c.args.level in
    let item = item_at most c.args.room (lines most c.args.room) c.args.level in
    let p = err_from_is_err_and c.from_residual.result c.from_residual.ensures.1 in
    rw (p.1, p.2) (λ refused.
    ap (λ q. q (input c.args.cursor.now)) (chain_is c.args.room (lines most c.args.room) c.args.level)
    ∙ chain_refused ops item (input c.args.cursor.now) c.in_err-left.field-0.0 (c.in_err-left.ensures.reads refused))

pub chain-operators-init : goal.chain-operators-init
chain-operators-init t c =
    let ops = op_at c.args.level in
    let item = item_at most c.args.room (lines most c.args.room) c.args.level in
    let counted : length (input c.item.new.cursor).rest ≡ length c.item.new.cursor.rest.now = length-map c.item.new.cursor.rest.now (lexeme_of c.item.new.cursor.source.now) in (
      suc (length (input c.item.new.cursor).rest),
      omega (arith, counted),
      omega (arith, c.in_ok-left.ensures.shorter),
      ap (λ p. p (input c.args.cursor.now)) (chain_is c.args.room (lines most c.args.room) c.args.level) ∙ chain_begins ops item (input c.args.cursor.now) (input c.item.new.cursor) (expr_tree c.in_ok-left.left) c.in_ok-left.ensures.reads,
    )

pub chain-returns-in_err-right-clause-reads : goal.chain-returns-in_err-right-clause-reads
chain-returns-in_err-right-clause-reads t c =
    let ops = op_at c.args.level in
    let item = item_at most c.args.room (lines most c.args.room) c.args.level in
    let i = input c.operators.cursor in
    let here : op_in ops (next i) ≡ Some c.in-Some.operator = sym c.in-Some.ensures.is in
    let some : 0 < c.operators.invariant.0 = omega (arith, c.operators.invariant.1) in
    let p = err_from_is_err_and c.from_residual-in_err-right.result c.from_residual-in_err-right.ensures.1 in
    rw (p.1, p.2) (λ refused.
    let failed : item (passed i) ≡ Err c.in_err-right.field-0.0 = subst (λ j. item j ≡ Err c.in_err-right.field-0.0) c.bump.ensures.next (c.in_err-right.ensures.reads refused) in
    c.operators.invariant.3 ∙ chain_stops ops item c.operators.invariant.0 (expr_tree c.operators.left) c.in-Some.operator c.in_err-right.field-0.0 i some here failed)

pub chain-operators-preserved : goal.chain-operators-preserved
chain-operators-preserved t c =
    let ops = op_at c.args.level in
    let item = item_at most c.args.room (lines most c.args.room) c.args.level in
    let i = input c.operators.cursor in
    let here : op_in ops (next i) ≡ Some c.in-Some.operator = sym c.in-Some.ensures.is in
    let some : 0 < c.operators.invariant.0 = omega (arith, c.operators.invariant.1) in
    let j = input c.item-in-Some.new.cursor in
    let read : item (passed i) ≡ Ok (expr_tree c.in_ok-right.right, j) =
    subst (λ k. item k ≡ Ok (expr_tree c.in_ok-right.right, j)) c.bump.ensures.next c.in_ok-right.ensures.reads in
    let turned = chain_goes ops item c.operators.invariant.0 (expr_tree c.operators.left) (expr_tree c.in_ok-right.right) c.in-Some.operator i j some here read in
    let built : Bin c.in-Some.operator (expr_tree c.operators.left) (expr_tree c.in_ok-right.right) (place i) ≡ expr_tree c.in_ok-left-2.left =
    ap (λ at. Bin c.in-Some.operator (expr_tree c.operators.left) (expr_tree c.in_ok-right.right) at) (sym c.place-at.ensures) ∙ sym c.in_ok-left-2.ensures in (
      c.operators.invariant.0 - 1,
      omega (arith, c.operators.invariant.1, c.in_ok-right.ensures.shorter, c.bump.ensures.left, c.in-Some.ensures.some),
      omega (arith, c.operators.invariant.2, c.in_ok-right.ensures.shorter, c.bump.ensures.left),
      c.operators.invariant.3 ∙ turned ∙ ap (λ e. chain_from ops item (c.operators.invariant.0 - 1) e j) built,
    )

pub chain-returns-clause-reads : goal.chain-returns-clause-reads
chain-returns-clause-reads t c =
    let ops = op_at c.args.level in
    let item = item_at most c.args.room (lines most c.args.room) c.args.level in
    let i = input c.operators.cursor in
    c.operators.invariant.3 ∙ chain_ends ops item c.operators.invariant.0 (expr_tree c.operators.left) i (search rules)
