-- Scripts that break no rule, with their plan; the first broken rule of the others; and the
-- function that tries the rules in the order of the text.
use Rattle.std.specs.Prelude.{◌≡◌, ℕ, ◌<◌, ◌≤◌, nat_le, if◌then◌else◌, List, [], ◌∷◌, ◌++◌, map, Result, Ok, Err}
use Rattle.std.specs.List.{flat_map}
use Rattle.sym_base.specs.declared.limits.TheConstants as limit
use Rattle.sym_base.specs.declared.tree.name.Name.{Name}
use Rattle.sym_base.specs.declared.tree.declaration.EnumDecl.{EnumDecl}
use Rattle.sym_base.specs.declared.tree.declaration.FieldDecl.{FieldDecl}
use Rattle.sym_base.specs.declared.tree.declaration.StateDecl.{StateDecl}
use Rattle.sym_base.specs.Trees.{ScriptTree, TestTree}
use Rattle.sym_check.specs.Meaning.Arithmetic.{◌>>=◌, and_then}
use Rattle.sym_check.specs.Meaning.PathBounds.{path_bound}
use Rattle.sym_check.specs.Plan.ScriptPlans.{ScriptPlan}
use Rattle.sym_check.specs.declared.elaborate.error.CheckErr.{CheckErr}
use Rattle.sym_check.specs.declared.elaborate.error.CheckErr.TheVariants as broken
use Rattle.sym_check.specs.Rules.Scopes.{Scope, hidden, in_update, in_report}
use Rattle.sym_check.specs.Rules.InOrder.{Each, FirstBroken, each}
use Rattle.sym_check.specs.Rules.Declarations.{IsEnumDecl, IsFieldDecl, IsGroup, IsStateDecl, IsTestDecl}
use Rattle.sym_check.specs.Breaks.Declarations.{BreaksEnum, BreaksField, BreaksGroup, BreaksState, BreaksTest}
use Rattle.sym_check.specs.Elaborate.Declarations.{enum_decl, field_decl, group_of, state_decl, test_decl}
use Rattle.sym_check.specs.Rules.Statements.{IsBlock}
use Rattle.sym_check.specs.Breaks.Statements.{BreaksBlock}
use Rattle.sym_check.specs.Elaborate.Statements.{block}
use Rattle.sym_check.specs.Rules.Reports.{IsColumnDecl}
use Rattle.sym_check.specs.Breaks.Reports.{BreaksColumn}
use Rattle.sym_check.specs.Elaborate.Reports.{column_decl}

-- All names that a script declares, wherever they stand; those of columns are apart.
abbrev pub enum_names : EnumDecl → List (List ℕ)
enum_names d = d.name.text ∷ map (λ (x : Name). x.text) d.labels

abbrev pub names : ScriptTree → List (List ℕ)
names t =
    flat_map enum_names t.enums
    ++ (map (λ (d : FieldDecl). d.name.text) t.fields
    ++ (map (λ (d : StateDecl). d.name.text) t.states
    ++ map (λ (d : TestTree). d.name.text) t.tests))

-- The enums and fields have these plans, each in the scope of those before it, and so has the group
-- line.
pub record HaveFields (t : ScriptTree) (p : ScriptPlan) (s : Scope) : Type 0 where
  pub enum_scope : Scope
  pub enums : Each IsEnumDecl [] 0 t.enums p.enums enum_scope
  pub fields : Each IsFieldDecl enum_scope 0 t.fields p.fields s
  pub group : IsGroup s t.group p.group

-- All declarations do.
pub record AreDeclared (t : ScriptTree) (p : ScriptPlan) (s : Scope) : Type 0 where
  pub field_scope : Scope
  pub fields : HaveFields t p field_scope
  pub cell_scope : Scope
  pub cells : Each IsStateDecl field_scope 0 t.states p.cells cell_scope
  pub tests : Each (IsTestDecl (names t)) cell_scope 0 t.tests p.tests s

-- All of the script has this plan, its path bound aside.
pub record HasPlan (t : ScriptTree) (p : ScriptPlan) : Type 0 where
  pub scope : Scope
  pub declared : AreDeclared t p scope
  pub locals : ℕ
  pub update : IsBlock (hidden scope) (in_update scope) 0 t.update p.update locals
  pub names : Scope
  pub columns : Each (IsColumnDecl (in_report scope)) [] 0 t.columns p.columns names

-- The script breaks no rule, and this is its plan.
pub record IsAccepted (t : ScriptTree) (p : ScriptPlan) : Type 0 where
  pub has_plan : HasPlan t p
  pub few : path_bound p ≤ limit.PATHS_MAX

-- The first broken rule of a script. `p` has the plans of what stands before.
pub data BreaksScript (t : ScriptTree) : CheckErr → Type 0 where
  in_enums : (f : CheckErr)
      → FirstBroken IsEnumDecl BreaksEnum [] 0 t.enums f
      → BreaksScript t f
  in_fields : (p : ScriptPlan) (s : Scope) (f : CheckErr)
      → Each IsEnumDecl [] 0 t.enums p.enums s
      → FirstBroken IsFieldDecl BreaksField s 0 t.fields f
      → BreaksScript t f
  in_group : (p : ScriptPlan) (s later : Scope) (f : CheckErr)
      → Each IsEnumDecl [] 0 t.enums p.enums s
      → Each IsFieldDecl s 0 t.fields p.fields later
      → BreaksGroup later t.group f
      → BreaksScript t f
  in_states : (p : ScriptPlan) (s : Scope) (f : CheckErr)
      → HaveFields t p s
      → FirstBroken IsStateDecl BreaksState s 0 t.states f
      → BreaksScript t f
  in_tests : (p : ScriptPlan) (s later : Scope) (f : CheckErr)
      → HaveFields t p s
      → Each IsStateDecl s 0 t.states p.cells later
      → FirstBroken (IsTestDecl (names t)) (BreaksTest (names t)) later 0 t.tests f
      → BreaksScript t f
  in_block : (p : ScriptPlan) (s : Scope) (f : CheckErr)
      → AreDeclared t p s
      → BreaksBlock (hidden s) (in_update s) 0 t.update f
      → BreaksScript t f
  in_columns : (p : ScriptPlan) (s : Scope) (locals : ℕ) (f : CheckErr)
      → AreDeclared t p s
      → IsBlock (hidden s) (in_update s) 0 t.update p.update locals
      → FirstBroken (IsColumnDecl (in_report s)) (BreaksColumn (in_report s)) [] 0 t.columns f
      → BreaksScript t f
  too_many : (p : ScriptPlan)
      → HasPlan t p
      → limit.PATHS_MAX < path_bound p
      → BreaksScript t (broken.Branchy (path_bound p))

-- Tried last, when all else stands.
abbrev pub bounded : ScriptPlan → Result ScriptPlan CheckErr
bounded p =
    if nat_le (path_bound p) limit.PATHS_MAX
    then Ok p
    else Err (broken.Branchy (path_bound p))

-- The plan of a script, or its first broken rule.
abbrev pub plan_of : ScriptTree → Result ScriptPlan CheckErr
plan_of t = do
  enums ← each enum_decl [] 0 t.enums
  fields ← each field_decl enums.scope 0 t.fields
  group ← group_of fields.scope t.group
  cells ← each state_decl fields.scope 0 t.states
  tests ← each (test_decl (names t)) cells.scope 0 t.tests
  update ← block (hidden tests.scope) (in_update tests.scope) 0 t.update
  columns ← each (column_decl (in_report tests.scope)) [] 0 t.columns
  bounded (record {
    enums = enums.plan;
    fields = fields.plan;
    group = group;
    cells = cells.plan;
    tests = tests.plan;
    update = update.plan;
    columns = columns.plan;
  })
