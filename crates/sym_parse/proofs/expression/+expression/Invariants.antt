-- Each call takes a token, or comes to a line further down.
use Rattle.std.proofs.Common.{◌≡◌, ℕ, ◌+◌, ◌*◌, ◌<◌, length}
use Rattle.sym_base.specs.Trees.{expr_tree}
use Rattle.sym_parse.specs.declared.operators.Level.{Level}
use Rattle.sym_parse.specs.declared.operators.Level.TheVariants.{Or, And, Sum, Product}
use Rattle.sym_parse.specs.Limits.{most}
use Rattle.sym_parse.specs.Parsing.Expressions.{chain_from, lines}
use Rattle.sym_parse.specs.Parsing.Levels.{chain_at, item_at, op_at}
use Rattle.sym_parse.specs.Views.{input}
use Rattle.sym_parse.proofs.expression.+expression.Given as goal

abbrev rank : Level → ℕ
rank Product = 4
rank Sum = 6
rank And = 10
rank Or = 12

abbrev pub decreases-arguments : goal.decreases-arguments
decreases-arguments l = 30 * length l.cursor.now.rest.now + 15

abbrev pub decreases-call : goal.decreases-call
decreases-call l = 30 * length l.cursor.now.rest.now + 1

abbrev pub decreases-chain : goal.decreases-chain
decreases-chain l = 30 * length l.cursor.now.rest.now + (rank l.level + 1)

abbrev pub decreases-expr : goal.decreases-expr
decreases-expr l = 30 * length l.cursor.now.rest.now + 14

abbrev pub decreases-item : goal.decreases-item
decreases-item l = 30 * length l.cursor.now.rest.now + rank l.level

abbrev pub decreases-more_arguments : goal.decreases-more_arguments
decreases-more_arguments l = 30 * length l.cursor.now.rest.now + 1

abbrev pub decreases-named : goal.decreases-named
decreases-named l = 30 * length l.cursor.now.rest.now + 1

abbrev pub decreases-negation : goal.decreases-negation
decreases-negation l = 30 * length l.cursor.now.rest.now + 9

abbrev pub decreases-parens : goal.decreases-parens
decreases-parens l = 30 * length l.cursor.now.rest.now + 1

abbrev pub decreases-primary : goal.decreases-primary
decreases-primary l = 30 * length l.cursor.now.rest.now + 2

abbrev pub decreases-relation : goal.decreases-relation
decreases-relation l = 30 * length l.cursor.now.rest.now + 8

abbrev pub decreases-unary : goal.decreases-unary
decreases-unary l = 30 * length l.cursor.now.rest.now + 3

abbrev pub decreases-values : goal.decreases-values
decreases-values l = 30 * length l.cursor.now.rest.now + 16

abbrev pub invariant-chain-operators : goal.invariant-chain-operators
invariant-chain-operators l =
    (n : ℕ) × (length l.cursor.rest.now < n) × (length l.cursor.rest.now < length l.fn.cursor.rest.now)
    × (chain_at most l.room (lines most l.room) l.level (input l.fn.cursor)
    ≡ chain_from (op_at l.level) (item_at most l.room (lines most l.room) l.level) n (expr_tree l.left) (input l.cursor))

abbrev pub decreases-chain-operators : goal.decreases-chain-operators
decreases-chain-operators l = length l.cursor.rest.now
