-- What the arguments so far come to stands before what the rest of the list does, which is no
-- deeper than the list.
use Rattle.std.proofs.Common.{◌≡◌, ◌≤◌, map}
use Rattle.sym_base.specs.Trees.{exprs_tree}
use Rattle.sym_base.specs.declared.tree.expression.Exprs.{size-Exprs}
use Rattle.sym_check.specs.Elaborate.Reports.{see_all}
use Rattle.sym_check.specs.Checking.Showing.{seen_plan}
use Rattle.sym_check.proofs.Done.{before_all}
use Rattle.sym_check.proofs.elaborate.report.+see.Given as goal

abbrev pub invariant-see_all-values : goal.invariant-see_all-values
invariant-see_all-values l = record {
  same : see_all l.scope (exprs_tree l.fn.values) ≡ before_all (map seen_plan l.found) (see_all l.scope (exprs_tree l.rest));
  within : size-Exprs l.rest ≤ size-Exprs l.fn.values;
}
