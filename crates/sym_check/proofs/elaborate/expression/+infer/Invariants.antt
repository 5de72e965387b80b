-- The operands so far, before those of the rest of the list, which is no deeper than the list.
use Rattle.std.proofs.Common.{◌≡◌, ◌≤◌, map}
use Rattle.sym_base.specs.Trees.{exprs_tree}
use Rattle.sym_base.specs.declared.tree.expression.Exprs.{size-Exprs}
use Rattle.sym_check.specs.Meaning.Arithmetic.{and_then}
use Rattle.sym_check.specs.Elaborate.Expressions.{operands}
use Rattle.sym_check.specs.Checking.TypedPlans.{located_plan}
use Rattle.sym_check.proofs.Gathered.{gathered}
use Rattle.sym_check.proofs.elaborate.expression.+infer.Given as goal

abbrev pub invariant-operands-values : goal.invariant-operands-values
invariant-operands-values l = record {
  same : operands l.scope (exprs_tree l.fn.values) ≡ and_then (gathered (map located_plan l.located.items)) (operands l.scope (exprs_tree l.rest));
  within : size-Exprs l.rest ≤ size-Exprs l.fn.values;
}
