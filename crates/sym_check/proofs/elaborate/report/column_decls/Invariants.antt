-- The columns so far are declared.
use Rattle.std.proofs.Common.{drop, map}
use Rattle.sym_base.specs.Trees.{column_tree}
use Rattle.sym_check.specs.Elaborate.Reports.{column_decl}
use Rattle.sym_check.specs.Plan.ScriptPlans.{column_plan}
use Rattle.sym_check.proofs.Done.{AreDone}
use Rattle.sym_check.proofs.elaborate.report.column_decls.Given as goal

abbrev pub invariant-columns : goal.invariant-columns
invariant-columns l = AreDone (column_decl l.scope) l.fn.names (map column_tree l.decl-items) (map column_plan l.columns) l.names l.number (map column_tree (drop l.number l.decl-items))
