-- A script, part by part, agrees with its plan and with its first broken rule.
use Rattle.std.proofs.Common.{◌≡◌, refl, subst, ℕ, ◌<◌, ◌≤◌, nat_le, Decides, ◌⊎◌, inl, inr, List, [], arith}
use Rattle.std.proofs.lemmas.Bool.{leb-true, le-leb}
use Rattle.sym_base.specs.declared.limits.TheConstants as limit
use Rattle.sym_base.specs.Trees.{ScriptTree}
use Rattle.sym_check.specs.declared.plan.script.EnumPlan.{EnumPlan}
use Rattle.sym_check.specs.declared.plan.script.FieldPlan.{FieldPlan}
use Rattle.sym_check.specs.declared.plan.script.CellPlan.{CellPlan}
use Rattle.sym_check.specs.Meaning.PathBounds.{path_bound}
use Rattle.sym_check.specs.Plan.DoPlans as do_
use Rattle.sym_check.specs.Plan.ScriptPlans.{ScriptPlan, TestOf, ColumnOf}
use Rattle.sym_check.specs.declared.elaborate.error.CheckErr.{CheckErr}
use Rattle.sym_check.specs.declared.elaborate.error.CheckErr.TheVariants as broken
use Rattle.sym_check.specs.Rules.Scopes.{Scope, hidden, in_update, in_report}
use Rattle.sym_check.specs.Rules.InOrder.{Each, FirstBroken, Planned}
use Rattle.sym_check.specs.Rules.Declarations.{IsEnumDecl, IsFieldDecl, IsGroup, IsStateDecl, IsTestDecl}
use Rattle.sym_check.specs.Breaks.Declarations.{BreaksEnum, BreaksField, BreaksGroup, BreaksState, BreaksTest}
use Rattle.sym_check.specs.Elaborate.Declarations.{enum_decl, field_decl, state_decl, test_decl}
use Rattle.sym_check.specs.Rules.Statements.{IsBlock}
use Rattle.sym_check.specs.Breaks.Statements.{BreaksBlock}
use Rattle.sym_check.specs.Elaborate.Statements.{PlannedDos}
use Rattle.sym_check.specs.Rules.Reports.{IsColumnDecl}
use Rattle.sym_check.specs.Breaks.Reports.{BreaksColumn}
use Rattle.sym_check.specs.Elaborate.Reports.{column_decl}
use Rattle.sym_check.specs.Rules.Scripts.{names, IsAccepted, BreaksScript, in_enums, in_fields, in_group, in_states, in_tests, in_block, in_columns, too_many, bounded, plan_of}
use Rattle.sym_check.proofs.Agreements.{Agrees, in_words, only_value, only_fault, then_agrees, where_true}
use Rattle.sym_check.proofs.ListsAgree.{each_agrees}
use Rattle.sym_check.proofs.GroupAgrees.{group_agrees}
use Rattle.sym_check.proofs.StatesAgree.{enum_agrees, field_agrees, state_agrees}
use Rattle.sym_check.proofs.TestsAgree.{test_agrees}
use Rattle.sym_check.proofs.BlocksAgree.{block_agrees}
use Rattle.sym_check.proofs.ColumnsAgree.{column_agrees}

-- The path bound, which is tried last.
few_decides : (n : ℕ) → Decides (nat_le n limit.PATHS_MAX) (n ≤ limit.PATHS_MAX)
few_decides n = (leb-true n limit.PATHS_MAX, le-leb n limit.PATHS_MAX)

abbrev Few : ScriptPlan → ScriptPlan → Type 0
Few p q = (path_bound p ≤ limit.PATHS_MAX) × (p ≡ q)

abbrev Many : ScriptPlan → CheckErr → Type 0
Many p f = (limit.PATHS_MAX < path_bound p) × (broken.Branchy (path_bound p) ≡ f)

bounded_agrees : (p : ScriptPlan) → Agrees (Few p) (Many p) (bounded p)
bounded_agrees p =
    where_true (nat_le (path_bound p) limit.PATHS_MAX) (few_decides (path_bound p))
    (λ few. only_value p (few, refl) (λ q i. i.1) (λ f b. too_few (path_bound p) limit.PATHS_MAX few b.0))
    (λ none. only_fault (broken.Branchy (path_bound p)) (many (path_bound p) limit.PATHS_MAX none, refl) (λ f b. b.1) (λ q i. none i.0))
  where
    too_few : (a b : ℕ) → a ≤ b → b < a → ⊥
    too_few a b h k = omega arith

    many : (a b : ℕ) → (a ≤ b → ⊥) → b < a
    many a b h = omega arith

-- The parts of a script, step by step. What has been found so far is the plan's first parts.
abbrev Enums : ScriptTree → Planned (List EnumPlan) → Type 0
Enums t e = Each IsEnumDecl [] 0 t.enums e.plan e.scope

abbrev Fields : ScriptTree → Scope → Planned (List FieldPlan) → Type 0
Fields t s f = Each IsFieldDecl s 0 t.fields f.plan f.scope

abbrev Cells : ScriptTree → Scope → Planned (List CellPlan) → Type 0
Cells t s c = Each IsStateDecl s 0 t.states c.plan c.scope

abbrev Tests : ScriptTree → Scope → Planned (List TestOf) → Type 0
Tests t s p = Each (IsTestDecl (names t)) s 0 t.tests p.plan p.scope

abbrev Block : ScriptTree → Scope → PlannedDos → Type 0
Block t s p = IsBlock (hidden s) (in_update s) 0 t.update p.plan p.next

abbrev Columns : ScriptTree → Scope → Planned (List ColumnOf) → Type 0
Columns t s p = Each (IsColumnDecl (in_report s)) [] 0 t.columns p.plan p.scope

abbrev plan_with : Planned (List EnumPlan) → Planned (List FieldPlan) → List ℕ → Planned (List CellPlan) → Planned (List TestOf) → PlannedDos → Planned (List ColumnOf) → ScriptPlan
plan_with e f g c k u q = record {
  enums = e.plan;
  fields = f.plan;
  group = g;
  cells = c.plan;
  tests = k.plan;
  update = u.plan;
  columns = q.plan;
}

abbrev Found : ScriptTree → ScriptPlan → Type 0
Found t p =
    (e : Planned (List EnumPlan)) × Enums t e
    × ((f : Planned (List FieldPlan)) × Fields t e.scope f
    × ((g : List ℕ) × IsGroup f.scope t.group g
    × ((c : Planned (List CellPlan)) × Cells t f.scope c
    × ((k : Planned (List TestOf)) × Tests t c.scope k
    × ((u : PlannedDos) × Block t k.scope u
    × ((q : Planned (List ColumnOf)) × Columns t k.scope q
    × Few (plan_with e f g c k u q) p))))))

plan_joined : (t : ScriptTree) (p : ScriptPlan) → Found t p → IsAccepted t p
plan_joined t p (e, ie, (f, jf, (g, ig, (c, ic, (k, ik, (u, iu, (q, iq, (few, same)))))))) = subst (IsAccepted t) same (record {
  has_plan = record {
    scope = k.scope;
    declared = record {
      field_scope = f.scope;
      fields = record { enum_scope = e.scope; enums = ie; fields = jf; group = ig };
      cell_scope = c.scope;
      cells = ic;
      tests = ik;
    };
    locals = u.next;
    update = iu;
    names = q.scope;
    columns = iq;
  };
  few = few;
})

plan_parted : (t : ScriptTree) (p : ScriptPlan) → IsAccepted t p → Found t p
plan_parted t p i =
    let h = i.has_plan in
    let d = h.declared in (
      record { plan = p.enums; scope = d.fields.enum_scope },
      d.fields.enums,
      (
        record { plan = p.fields; scope = d.field_scope },
        d.fields.fields,
        (
          p.group,
          d.fields.group,
          (
            record { plan = p.cells; scope = d.cell_scope },
            d.cells,
            (
              record { plan = p.tests; scope = h.scope },
              d.tests,
              (
                record { plan = p.update; next = h.locals },
                h.update,
                (
                  record { plan = p.columns; scope = h.names },
                  h.columns,
                  (i.few, refl),
                ),
              ),
            ),
          ),
        ),
      ),
    )

abbrev Faults : ScriptTree → CheckErr → Type 0
Faults t x =
    FirstBroken IsEnumDecl BreaksEnum [] 0 t.enums x
    ⊎ ((e : Planned (List EnumPlan)) × Enums t e
    × (FirstBroken IsFieldDecl BreaksField e.scope 0 t.fields x
    ⊎ ((f : Planned (List FieldPlan)) × Fields t e.scope f
    × (BreaksGroup f.scope t.group x
    ⊎ ((g : List ℕ) × IsGroup f.scope t.group g
    × (FirstBroken IsStateDecl BreaksState f.scope 0 t.states x
    ⊎ ((c : Planned (List CellPlan)) × Cells t f.scope c
    × (FirstBroken (IsTestDecl (names t)) (BreaksTest (names t)) c.scope 0 t.tests x
    ⊎ ((k : Planned (List TestOf)) × Tests t c.scope k
    × (BreaksBlock (hidden k.scope) (in_update k.scope) 0 t.update x
    ⊎ ((u : PlannedDos) × Block t k.scope u
    × (FirstBroken (IsColumnDecl (in_report k.scope)) (BreaksColumn (in_report k.scope)) [] 0 t.columns x
    ⊎ ((q : Planned (List ColumnOf)) × Columns t k.scope q
    × Many (plan_with e f g c k u q) x)))))))))))))

-- A plan with nothing in it, for the parts that a fault leaves open.
abbrev no_tests : Planned (List TestOf)
no_tests = record { plan = []; scope = [] }

abbrev no_cells : Planned (List CellPlan)
no_cells = record { plan = []; scope = [] }

abbrev no_fields : Planned (List FieldPlan)
no_fields = record { plan = []; scope = [] }

abbrev no_update : PlannedDos
no_update = record { plan = do_.End; next = 0 }

abbrev no_columns : Planned (List ColumnOf)
no_columns = record { plan = []; scope = [] }

script_blamed : (t : ScriptTree) (x : CheckErr) → Faults t x → BreaksScript t x
script_blamed t x (inl b) = in_enums x b
script_blamed t x (inr (e, ie, inl b)) = in_fields (plan_with e no_fields [] no_cells no_tests no_update no_columns) e.scope x ie b
script_blamed t x (inr (e, ie, inr (f, jf, inl b))) = in_group (plan_with e f [] no_cells no_tests no_update no_columns) e.scope f.scope x ie jf b
script_blamed t x (inr (e, ie, inr (f, jf, inr (g, ig, inl b)))) =
    in_states (plan_with e f g no_cells no_tests no_update no_columns) f.scope x (record { enum_scope = e.scope; enums = ie; fields = jf; group = ig }) b
script_blamed t x (inr (e, ie, inr (f, jf, inr (g, ig, inr (c, ic, inl b))))) =
    in_tests (plan_with e f g c no_tests no_update no_columns) f.scope c.scope x (record { enum_scope = e.scope; enums = ie; fields = jf; group = ig }) ic b
script_blamed t x (inr (e, ie, inr (f, jf, inr (g, ig, inr (c, ic, inr (k, ik, inl b)))))) =
    in_block (plan_with e f g c k no_update no_columns) k.scope x (record {
      field_scope = f.scope;
      fields = record { enum_scope = e.scope; enums = ie; fields = jf; group = ig };
      cell_scope = c.scope;
      cells = ic;
      tests = ik;
    }) b
script_blamed t x (inr (e, ie, inr (f, jf, inr (g, ig, inr (c, ic, inr (k, ik, inr (u, iu, inl b))))))) =
    in_columns (plan_with e f g c k u no_columns) k.scope u.next x (record {
      field_scope = f.scope;
      fields = record { enum_scope = e.scope; enums = ie; fields = jf; group = ig };
      cell_scope = c.scope;
      cells = ic;
      tests = ik;
    }) iu b
script_blamed t x (inr (e, ie, inr (f, jf, inr (g, ig, inr (c, ic, inr (k, ik, inr (u, iu, inr (q, iq, (many, same))))))))) =
    subst (BreaksScript t) same (too_many (plan_with e f g c k u q) (record {
      scope = k.scope;
      declared = record {
        field_scope = f.scope;
        fields = record { enum_scope = e.scope; enums = ie; fields = jf; group = ig };
        cell_scope = c.scope;
        cells = ic;
        tests = ik;
      };
      locals = u.next;
      update = iu;
      names = q.scope;
      columns = iq;
    }) many)

script_blames : (t : ScriptTree) (x : CheckErr) → BreaksScript t x → Faults t x
script_blames t _ (in_enums x b) = inl b
script_blames t _ (in_fields p s x ie b) = inr (record { plan = p.enums; scope = s }, ie, inl b)
script_blames t _ (in_group p s later x ie jf b) = inr (record { plan = p.enums; scope = s }, ie, inr (record { plan = p.fields; scope = later }, jf, inl b))
script_blames t _ (in_states p s x h b) = inr (record { plan = p.enums; scope = h.enum_scope }, h.enums, inr (record { plan = p.fields; scope = s }, h.fields, inr (p.group, h.group, inl b)))
script_blames t _ (in_tests p s later x h ic b) = inr (record { plan = p.enums; scope = h.enum_scope }, h.enums, inr (record { plan = p.fields; scope = s }, h.fields, inr (p.group, h.group, inr (record { plan = p.cells; scope = later }, ic, inl b))))
script_blames t _ (in_block p s x d b) =
    inr (record { plan = p.enums; scope = d.fields.enum_scope }, d.fields.enums, inr (record { plan = p.fields; scope = d.field_scope }, d.fields.fields, inr (p.group, d.fields.group, inr (record { plan = p.cells; scope = d.cell_scope }, d.cells, inr (record { plan = p.tests; scope = s }, d.tests, inl b)))))
script_blames t _ (in_columns p s locals x d iu b) =
    inr (record { plan = p.enums; scope = d.fields.enum_scope }, d.fields.enums, inr (record { plan = p.fields; scope = d.field_scope }, d.fields.fields, inr (p.group, d.fields.group, inr (record { plan = p.cells; scope = d.cell_scope }, d.cells, inr (record { plan = p.tests; scope = s }, d.tests, inr (record { plan = p.update; next = locals }, iu, inl b))))))
script_blames t _ (too_many p h many) =
    let d = h.declared in
    inr (record { plan = p.enums; scope = d.fields.enum_scope }, d.fields.enums, inr (record { plan = p.fields; scope = d.field_scope }, d.fields.fields, inr (p.group, d.fields.group, inr (record { plan = p.cells; scope = d.cell_scope }, d.cells, inr (record { plan = p.tests; scope = h.scope }, d.tests, inr (record { plan = p.update; next = h.locals }, h.update, inr (record { plan = p.columns; scope = h.names }, h.columns, (many, refl))))))))

pub script_agrees : (t : ScriptTree) → Agrees (IsAccepted t) (BreaksScript t) (plan_of t)
script_agrees t =
    in_words
    (then_agrees (each_agrees IsEnumDecl BreaksEnum enum_decl enum_agrees [] 0 t.enums) (λ e ie.
    then_agrees (each_agrees IsFieldDecl BreaksField field_decl field_agrees e.scope 0 t.fields) (λ f jf.
    then_agrees (group_agrees f.scope t.group) (λ g ig.
    then_agrees (each_agrees IsStateDecl BreaksState state_decl state_agrees f.scope 0 t.states) (λ c ic.
    then_agrees (each_agrees (IsTestDecl (names t)) (BreaksTest (names t)) (test_decl (names t)) (test_agrees (names t)) c.scope 0 t.tests) (λ k ik.
    then_agrees (block_agrees (hidden k.scope) (in_update k.scope) 0 t.update) (λ u iu.
    then_agrees (each_agrees (IsColumnDecl (in_report k.scope)) (BreaksColumn (in_report k.scope)) (column_decl (in_report k.scope)) (column_agrees k.scope) [] 0 t.columns) (λ q iq.
    bounded_agrees (plan_with e f g c k u q)))))))))
    (plan_joined t) (plan_parted t) (script_blamed t) (script_blames t)
