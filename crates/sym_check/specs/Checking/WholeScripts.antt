-- The plans of an update and of a report's columns, in the scope of all declarations of a script.
use Rattle.std.specs.Prelude.{List, [], Result, Ok}
use Rattle.sym_base.specs.Trees.{ColumnTree, StmtsTree}
use Rattle.sym_check.specs.declared.elaborate.error.CheckErr.{CheckErr}
use Rattle.sym_check.specs.Meaning.Arithmetic.{◌>>=◌}
use Rattle.sym_check.specs.Plan.DoPlans.{DosPlan}
use Rattle.sym_check.specs.Elaborate.Reports.{column_decl}
use Rattle.sym_check.specs.Elaborate.Statements.{block}
use Rattle.sym_check.specs.Rules.InOrder.{each}
use Rattle.sym_check.specs.Plan.ScriptPlans.{ColumnOf}
use Rattle.sym_check.specs.Rules.Scopes.{Scope, hidden, in_update, in_report}

abbrev pub update_plan : Scope → StmtsTree → Result DosPlan CheckErr
update_plan s update = do
  u ← block (hidden s) (in_update s) 0 update
  Ok u.plan

abbrev pub column_plans : Scope → List ColumnTree → Result (List ColumnOf) CheckErr
column_plans s columns = do
  c ← each (column_decl (in_report s)) [] 0 columns
  Ok c.plan
