-- The plan of a script as plain data.
use Rattle.std.specs.Prelude.{ℕ, List, map}
use Rattle.sym_check.specs.declared.plan.script.EnumPlan.{EnumPlan}
use Rattle.sym_check.specs.declared.plan.script.KindPlan.{KindPlan}
use Rattle.sym_check.specs.declared.plan.script.FieldPlan.{FieldPlan}
use Rattle.sym_check.specs.declared.plan.script.CellPlan.{CellPlan}
use Rattle.sym_check.specs.declared.plan.script.TestPlan.{TestPlan}
use Rattle.sym_check.specs.declared.plan.script.ColumnPlan.{ColumnPlan}
use Rattle.sym_check.specs.declared.plan.script.Plan.{Plan}
use Rattle.sym_check.specs.Plan.CondPlans.{CondPlan, cond_plan}
use Rattle.sym_check.specs.Plan.DoPlans.{DosPlan, dos_plan}
use Rattle.sym_check.specs.Plan.ShowPlans.{ShowPlan, show_plan}

-- A test: the kinds of its parameters, and the condition that it answers.
pub record TestOf : Type 0 where
  pub params : List KindPlan
  pub body : CondPlan

abbrev pub test_plan : TestPlan → TestOf
test_plan t = record { params = t.params; body = cond_plan t.body }

-- A column of the report.
pub record ColumnOf : Type 0 where
  pub name : List ℕ
  pub value : ShowPlan

abbrev pub column_plan : ColumnPlan → ColumnOf
column_plan c = record { name = c.name; value = show_plan c.value }

pub record ScriptPlan : Type 0 where
  pub enums : List EnumPlan
  pub fields : List FieldPlan
  pub group : List ℕ
  pub cells : List CellPlan
  pub tests : List TestOf
  pub update : DosPlan
  pub columns : List ColumnOf

abbrev pub script_plan : Plan → ScriptPlan
script_plan p = record {
  enums = p.enums;
  fields = p.fields;
  group = p.group;
  cells = p.cells;
  tests = map test_plan p.tests;
  update = dos_plan p.update;
  columns = map column_plan p.columns;
}
