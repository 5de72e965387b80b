-- The plan of a script from the plans of its parts.
use Rattle.std.proofs.Common.{◌≡◌, ◌∙◌, ap, refl, ℕ, List, []}
use Rattle.std.specs.Prelude.{Result, Ok, Err}
use Rattle.sym_base.specs.Trees.{ScriptTree}
use Rattle.sym_check.specs.declared.elaborate.error.CheckErr.{CheckErr}
use Rattle.sym_check.specs.declared.plan.script.EnumPlan.{EnumPlan}
use Rattle.sym_check.specs.declared.plan.script.FieldPlan.{FieldPlan}
use Rattle.sym_check.specs.declared.plan.script.CellPlan.{CellPlan}
use Rattle.sym_check.specs.Meaning.Arithmetic.{and_then}
use Rattle.sym_check.specs.Plan.DoPlans.{DosPlan}
use Rattle.sym_check.specs.Elaborate.Declarations.{enum_decl, field_decl, group_of, state_decl, test_decl}
use Rattle.sym_check.specs.Elaborate.Reports.{column_decl}
use Rattle.sym_check.specs.Elaborate.Statements.{PlannedDos, block}
use Rattle.sym_check.specs.Rules.InOrder.{Planned, each}
use Rattle.sym_check.specs.Plan.ScriptPlans.{TestOf, ColumnOf, ScriptPlan}
use Rattle.sym_check.specs.Rules.Scopes.{Scope, hidden, in_update, in_report}
use Rattle.sym_check.specs.Rules.Scripts.{names, bounded, plan_of}
use Rattle.sym_check.specs.Checking.WholeScripts.{update_plan, column_plans}

-- The declarations have these plans, and lead to this scope.
pub record HasDeclarations (t : ScriptTree) (es : List EnumPlan) (fs : List FieldPlan) (g : List ℕ) (cs : List CellPlan) (ts : List TestOf) (s : Scope) : Type 0 where
  pub enum_scope : Scope
  pub enums : each enum_decl [] 0 t.enums ≡ Ok (record { plan = es; scope = enum_scope })
  pub field_scope : Scope
  pub fields : each field_decl enum_scope 0 t.fields ≡ Ok (record { plan = fs; scope = field_scope })
  pub group : group_of field_scope t.group ≡ Ok g
  pub cell_scope : Scope
  pub cells : each state_decl field_scope 0 t.states ≡ Ok (record { plan = cs; scope = cell_scope })
  pub tests : each (test_decl (names t)) cell_scope 0 t.tests ≡ Ok (record { plan = ts; scope = s })

broken_after : {A B C : Type 0} (r : Result A CheckErr) (g : A → B) (f : A → Result C CheckErr) (e : CheckErr) → and_then (λ a. Ok (g a)) r ≡ Err e → and_then f r ≡ Err e
broken_after (Ok a) g f e h = cc
broken_after (Err d) g f e h = cc

goes_on : {A B C : Type 0} (r : Result A CheckErr) (g : A → B) (f : B → Result C CheckErr) (b : B) → and_then (λ a. Ok (g a)) r ≡ Ok b → and_then (λ a. f (g a)) r ≡ f b
goes_on (Ok a) g f b h = let same : g a ≡ b = cc in ap f same
goes_on (Err d) g f b h = cc

module _ (t : ScriptTree) (es : List EnumPlan) (fs : List FieldPlan) (g : List ℕ) (cs : List CellPlan) (ts : List TestOf) (s : Scope) where
  abbrev whole : DosPlan → List ColumnOf → Result ScriptPlan CheckErr
  whole update columns = bounded (record {
    enums = es;
    fields = fs;
    group = g;
    cells = cs;
    tests = ts;
    update = update;
    columns = columns;
  })

  abbrev with_columns : DosPlan → Result ScriptPlan CheckErr
  with_columns update = and_then (λ (c : Planned (List ColumnOf)). whole update c.plan) (each (column_decl (in_report s)) [] 0 t.columns)

  abbrev with_update : Result ScriptPlan CheckErr
  with_update = and_then (λ (u : PlannedDos). with_columns u.plan) (block (hidden s) (in_update s) 0 t.update)

  after_declarations : HasDeclarations t es fs g cs ts s → plan_of t ≡ with_update
  after_declarations d = rw (d.enums, d.fields, d.group, d.cells, d.tests) refl

  pub update_breaks : (e : CheckErr) → HasDeclarations t es fs g cs ts s → update_plan s t.update ≡ Err e → plan_of t ≡ Err e
  update_breaks e d h = after_declarations d ∙ broken_after (block (hidden s) (in_update s) 0 t.update) (λ u. u.plan) (λ u. with_columns u.plan) e h

  after_update : (update : DosPlan) → HasDeclarations t es fs g cs ts s → update_plan s t.update ≡ Ok update → plan_of t ≡ with_columns update
  after_update update d h = after_declarations d ∙ goes_on (block (hidden s) (in_update s) 0 t.update) (λ u. u.plan) with_columns update h

  pub columns_break : (update : DosPlan) (e : CheckErr) → HasDeclarations t es fs g cs ts s → update_plan s t.update ≡ Ok update → column_plans s t.columns ≡ Err e → plan_of t ≡ Err e
  columns_break update e d h k = after_update update d h ∙ broken_after (each (column_decl (in_report s)) [] 0 t.columns) (λ c. c.plan) (λ c. whole update c.plan) e k

  pub plan_is : (update : DosPlan) (columns : List ColumnOf) → HasDeclarations t es fs g cs ts s → update_plan s t.update ≡ Ok update → column_plans s t.columns ≡ Ok columns → plan_of t ≡ whole update columns
  plan_is update columns d h k = after_update update d h ∙ goes_on (each (column_decl (in_report s)) [] 0 t.columns) (λ c. c.plan) (whole update) columns k
