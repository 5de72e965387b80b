use Rattle.std.proofs.Common.{◌≡◌, ℕ, ◌<◌, length, map}
use Rattle.sym_base.specs.Trees.{expr_tree}
use Rattle.sym_parse.specs.Limits.{most}
use Rattle.sym_parse.specs.Parsing.Expressions.{expression, further, values, values_from}
use Rattle.sym_parse.specs.Steps.{and_then}
use Rattle.sym_parse.specs.Views.{input}
use Rattle.sym_parse.proofs.Gathering.{gathered}
use Rattle.sym_parse.proofs.kept.gathered.Given as goal

abbrev pub invariant-values : goal.invariant-values
invariant-values l =
    (n : ℕ) × (length l.cursor.rest.now < n) × (length l.cursor.rest.now < length l.fn.cursor.rest.now)
    × (values (expression most l.room) (input l.fn.cursor)
    ≡ and_then (further (expression most l.room) (values_from (expression most l.room) n) (input l.cursor)) (gathered (map expr_tree l.found.items)))

abbrev pub decreases-values : goal.decreases-values
decreases-values l = length l.cursor.rest.now
