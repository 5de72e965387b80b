-- Scripts that are the same, places aside, have the same plan, or break the same rule.
use Rattle.std.proofs.Common.{◌≡◌, refl, sym, ap, subst, ◌∙◌, ℕ, List, [], ◌∷◌, ◌++◌, map, Result, Ok, Err}
use Rattle.std.specs.List.{flat_map}
use Rattle.sym_base.specs.declared.tree.name.Name.{Name}
use Rattle.sym_base.specs.declared.tree.declaration.EnumDecl.{EnumDecl}
use Rattle.sym_base.specs.declared.tree.declaration.FieldDecl.{FieldDecl}
use Rattle.sym_base.specs.declared.tree.declaration.StateDecl.{StateDecl}
use Rattle.sym_base.specs.Trees.{ScriptTree, TestTree}
use Rattle.sym_parse.specs.Bare.{bare_name, bare_enum, bare_field, bare_state, bare_test, bare_column, bare_script}
use Rattle.sym_check.specs.declared.elaborate.error.CheckErr.{CheckErr}
use Rattle.sym_check.specs.Plan.ScriptPlans.{ScriptPlan}
use Rattle.sym_check.specs.Rules.InOrder.{each}
use Rattle.sym_check.specs.Rules.Scopes.{Scope, hidden, in_update, in_report}
use Rattle.sym_check.specs.Rules.Scripts.{IsAccepted, BreaksScript, enum_names, names, bounded, plan_of}
use Rattle.sym_check.specs.Elaborate.Declarations.{enum_decl, field_decl, state_decl, test_decl}
use Rattle.sym_check.specs.Elaborate.Reports.{column_decl}
use Rattle.sym_check.proofs.ScriptsAgree.{accepted_planned, planned_accepted, breaks_planned, planned_breaks}
use Rattle.sym_file.specs.Layouts.{BreaksAlike}
use Rattle.sym_file.proofs.Layouts.Alike.{Same, Alike, wrong, alike, then_alike, each-alike, value_there, value_here, fault_there, fault_here}
use Rattle.sym_file.proofs.Layouts.StatementsAlike.{block-alike}
use Rattle.sym_file.proofs.Layouts.DeclarationsAlike.{enum_decl-alike, field_decl-alike, group_of-alike, state_decl-alike, test_decl-alike}
use Rattle.sym_file.proofs.Layouts.ReportsAlike.{column_decl-alike}

-- ---- names
texts_same : {A : Type 0} (bare : A → A) (text : A → List ℕ) → ((a : A) → text (bare a) ≡ text a) → (items : List A) → map text (map bare items) ≡ map text items
texts_same bare text h [] = refl
texts_same bare text h (a ∷ rest) = ap (λ t. t ∷ map text (map bare rest)) (h a) ∙ ap (λ ts. text a ∷ ts) (texts_same bare text h rest)

enums_same : (ds : List EnumDecl) → flat_map enum_names (map bare_enum ds) ≡ flat_map enum_names ds
enums_same [] = refl
enums_same (d ∷ rest) =
    ap (λ ts. (d.name.text ∷ ts) ++ flat_map enum_names (map bare_enum rest)) (texts_same bare_name (λ (x : Name). x.text) (λ x. refl) d.labels)
    ∙ ap (λ ts. enum_names d ++ ts) (enums_same rest)

names_same : (t : ScriptTree) → names (bare_script t) ≡ names t
names_same t =
    let es = enums_same t.enums in
    let fs = texts_same bare_field (λ (d : FieldDecl). d.name.text) (λ d. refl) t.fields in
    let ss = texts_same bare_state (λ (d : StateDecl). d.name.text) (λ d. refl) t.states in
    let ts = texts_same bare_test (λ (d : TestTree). d.name.text) (λ d. refl) t.tests in
    rw (es, fs, ss, ts) refl

-- ---- plans
tests-alike : (t : ScriptTree) (s : Scope) → Alike Same (each (test_decl (names t)) s 0 t.tests) (each (test_decl (names (bare_script t))) s 0 (map bare_test t.tests))
tests-alike t s =
    let P : List (List ℕ) → Type 0 = λ ns. Alike Same (each (test_decl (names t)) s 0 t.tests) (each (test_decl ns) s 0 (map bare_test t.tests)) in
    subst P (sym (names_same t)) (each-alike bare_test (test_decl (names t)) (test_decl (names t)) (test_decl-alike (names t)) s 0 t.tests)

any_alike : {A : Type 0} (r : Result A CheckErr) → Alike Same r r
any_alike (Ok x) = alike
any_alike (Err f) = wrong f f refl

pub plan-alike : (t : ScriptTree) → Alike Same (plan_of t) (plan_of (bare_script t))
plan-alike t =
    then_alike (each-alike bare_enum enum_decl enum_decl enum_decl-alike [] 0 t.enums)
    (λ enums. then_alike (each-alike bare_field field_decl field_decl field_decl-alike enums.scope 0 t.fields)
    (λ fields. then_alike (group_of-alike fields.scope t.group)
    (λ group. then_alike (each-alike bare_state state_decl state_decl state_decl-alike fields.scope 0 t.states)
    (λ cells. then_alike (tests-alike t cells.scope)
    (λ tests. then_alike (block-alike (hidden tests.scope) (in_update tests.scope) 0 t.update)
    (λ update. then_alike (each-alike bare_column (column_decl (in_report tests.scope)) (column_decl (in_report tests.scope)) (column_decl-alike (in_report tests.scope)) [] 0 t.columns)
    (λ columns. any_alike (bounded (record {
      enums = enums.plan;
      fields = fields.plan;
      group = group;
      cells = cells.plan;
      tests = tests.plan;
      update = update.plan;
      columns = columns.plan;
    })))))))))

pub accepted_alike : (t other : ScriptTree) (p : ScriptPlan) → bare_script t ≡ bare_script other → IsAccepted t p → IsAccepted other p
accepted_alike t other p e is =
    let there : plan_of (bare_script t) ≡ Ok p = value_there p (plan-alike t) (accepted_planned t p is) in
    planned_accepted other p (value_here p (plan-alike other) (subst (λ s. plan_of s ≡ Ok p) e there))

pub broken_alike : (t other : ScriptTree) (f : CheckErr) → bare_script t ≡ bare_script other → BreaksScript t f → BreaksAlike other f
broken_alike t other f e b =
    let (g, there, same_there) = fault_there f (plan-alike t) (breaks_planned t f b) in
    let (k, here, same_here) = fault_here g (plan-alike other) (subst (λ s. plan_of s ≡ Err g) e there) in
    record { fault = k; breaks = planned_breaks other k here; same = sym (same_there ∙ same_here) }
