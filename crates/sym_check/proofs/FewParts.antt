-- Scopes in which hold cells have few parts.
use Rattle.std.proofs.Common.{◌≡◌, ap, subst, refl, ℕ, suc, ◌+◌, Bool, true, false, List, [], ◌∷◌, ◌++◌, length, Option, Some, None, arith}
use Rattle.std.proofs.lemmas.Bool.Decides.{nat_tests}
use Rattle.std.specs.Prelude.{◌&&◌, int_le, nat_lt, if◌then◌else◌, IsTrue, Result, Ok, Err}
use Rattle.std.specs.List.{list_all}
use Rattle.sym_base.specs.Lawful.{IsLawful, is_between, is_lawful_part, is_lawful_cell, is_lawful_state, is_lawful_name}
use Rattle.sym_base.specs.Limits.{max_parts}
use Rattle.sym_base.specs.Trees.{TestTree, ScriptTree}
use Rattle.sym_base.specs.declared.tree.name.Name.{Name}
use Rattle.sym_base.specs.declared.tree.declaration.EnumDecl.{EnumDecl}
use Rattle.sym_base.specs.declared.tree.declaration.FieldDecl.{FieldDecl}
use Rattle.sym_base.specs.declared.tree.declaration.StateDecl.{StateDecl}
use Rattle.sym_base.specs.declared.tree.declaration.Part.{Part}
use Rattle.sym_base.specs.declared.tree.declaration.CellDecl.{CellDecl}
use Rattle.sym_base.specs.declared.tree.declaration.CellDecl.TheVariants as cell
use Rattle.sym_base.specs.declared.values.value.Value.{Value}
use Rattle.sym_check.specs.declared.elaborate.error.CheckErr.{CheckErr}
use Rattle.sym_check.specs.declared.elaborate.scope.Meaning.{Meaning}
use Rattle.sym_check.specs.declared.elaborate.scope.Meaning.TheVariants as meaning
use Rattle.sym_check.specs.declared.elaborate.scope.Variable.TheVariants as var
use Rattle.sym_check.specs.declared.elaborate.scope.Entry.{Entry}
use Rattle.sym_check.specs.declared.plan.script.KindPlan.{KindPlan}
use Rattle.sym_check.specs.declared.plan.script.EnumPlan.{EnumPlan}
use Rattle.sym_check.specs.declared.plan.script.FieldPlan.{FieldPlan}
use Rattle.sym_check.specs.declared.plan.script.CellPlan.{CellPlan}
use Rattle.sym_check.specs.declared.plan.script.CellPlan.TheVariants as cell_plan
use Rattle.sym_check.specs.Plan.ScriptPlans.{TestOf}
use Rattle.sym_check.specs.Rules.Scripts.{names}
use Rattle.sym_check.specs.Meaning.Arithmetic.{and_then}
use Rattle.sym_check.specs.Breaks.Expressions.{place}
use Rattle.sym_check.specs.Meaning.Conditions.{same_word}
use Rattle.sym_check.specs.Rules.Declarations.{unfinished}
use Rattle.sym_check.specs.Elaborate.Expressions.{infer, condition}
use Rattle.sym_check.specs.Elaborate.Declarations.{PlannedParts, PlannedCell, kind_of, literal_of, default_of, parts_of, cell_of, enum_named, label_named, label_decl, enum_decl, field_decl, state_decl, param_decl, test_decl}
use Rattle.sym_check.specs.Elaborate.Statements.{unless_taken}
use Rattle.sym_check.specs.Rules.InOrder.{Planned, each}
use Rattle.sym_check.specs.Rules.Scopes.{Scope, entry, find, shows, visible, in_tests}
use Rattle.sym_check.specs.Checking.Showing.{has_few_parts, HaveFewParts}
use Rattle.sym_check.proofs.WholeScripts.{HasDeclarations}
use Rattle.sym_check.specs.declared.elaborate.scope.View.{View}

abbrev few : Entry → Bool
few e = has_few_parts e.meaning

left_true : (a b : Bool) → (a && b) ≡ true → a ≡ true
left_true true b h = refl
left_true false b h = h

right_true : (a b : Bool) → (a && b) ≡ true → b ≡ true
right_true true b h = h
right_true false b h = cc

both_true : (a b : Bool) → a ≡ true → b ≡ true → (a && b) ≡ true
both_true true b g h = h
both_true false b g h = g

chosen_few : (b : Bool) (e : Entry) (o : Option Meaning) (m : Meaning) → few e ≡ true → (o ≡ Some m → has_few_parts m ≡ true) → (if b then Some e.meaning else o) ≡ Some m → has_few_parts m ≡ true
chosen_few true e o m first rest h = let same : e.meaning ≡ m = cc in rw (← same) first
chosen_few false e o m first rest h = rest h

-- So has what a name stands for.
pub found_few : (s : Scope) (text : List ℕ) (m : Meaning) → HaveFewParts s → find s text ≡ Some m → IsTrue (has_few_parts m)
found_few [] text m all h = absurd (cc)
found_few (e ∷ rest) text m all h =
    chosen_few (same_word e.name text) e (find rest text) m
    (left_true (few e) (list_all few rest) all)
    (λ g. found_few rest text m (right_true (few e) (list_all few rest) all) g)
    h

more_few : (s : Scope) (e : Entry) → few e ≡ true → HaveFewParts s → HaveFewParts (s ++ e ∷ [])
more_few [] e h all = both_true (few e) true h refl
more_few (d ∷ rest) e h all =
    both_true (few d) (list_all few (rest ++ e ∷ []))
    (left_true (few d) (list_all few rest) all)
    (more_few rest e h (right_true (few d) (list_all few rest) all))

kept_few : (b : Bool) (d : Entry) (rest : Scope) → few d ≡ true → list_all few rest ≡ true → list_all few (if b then d ∷ rest else rest) ≡ true
kept_few true d rest g h = both_true (few d) (list_all few rest) g h
kept_few false d rest g h = h

-- So has what a part of the script sees.
pub visible_few : (v : View) (s : Scope) → HaveFewParts s → HaveFewParts (visible v s)
visible_few v [] all = refl
visible_few v (d ∷ rest) all =
    kept_few (shows v d.meaning) d (visible v rest)
    (left_true (few d) (list_all few rest) all)
    (visible_few v rest (right_true (few d) (list_all few rest) all))

-- Where the outcome is a plan, the scope after it has few parts too.
abbrev Keeps : {B : Type 0} → Scope → Result (Planned B) CheckErr → Type 0
Keeps s (Ok p) = HaveFewParts s → HaveFewParts p.scope
Keeps s (Err e) = Unit {0}

taken_keeps : {B : Type 0} (s : Scope) (at : ℕ) (o : Option Meaning) (r : Result (Planned B) CheckErr) → Keeps s r → Keeps s (unless_taken at o r)
taken_keeps s at None r h = h
taken_keeps s at (Some m) r h = tt

bind_keeps : {A B : Type 0} (s : Scope) (r : Result A CheckErr) (f : A → Result (Planned B) CheckErr) → ((a : A) → Keeps s (f a)) → Keeps s (and_then f r)
bind_keeps s (Ok a) f h = h a
bind_keeps s (Err e) f h = tt

then_keeps : {B C : Type 0} (s m : Scope) (o : Result (Planned B) CheckErr) (f : B → C) → (HaveFewParts s → HaveFewParts m) → Keeps m o → Keeps s (and_then (λ b. Ok (record { plan = f b.plan; scope = b.scope })) o)
then_keeps s m (Ok b) f h k = λ all. k (h all)
then_keeps s m (Err e) f h k = tt

module _ {A B : Type 0} (one : Scope → ℕ → A → Result (Planned B) CheckErr) (lawful : A → Bool) (keeps : (s : Scope) (n : ℕ) (a : A) → lawful a ≡ true → Keeps s (one s n a)) where
  first_keeps : (s : Scope) (n : ℕ) (rest : List A) (o : Result (Planned B) CheckErr) → Keeps s o → ((m : Scope) → Keeps m (each one m (n + 1) rest)) → Keeps s (and_then (λ b. and_then (λ bs. Ok (record { plan = b.plan ∷ bs.plan; scope = bs.scope })) (each one b.scope (n + 1) rest)) o)
  first_keeps s n rest (Ok b) h more = then_keeps s b.scope (each one b.scope (n + 1) rest) (λ bs. b.plan ∷ bs) h (more b.scope)
  first_keeps s n rest (Err e) h more = tt

  each_keeps : (s : Scope) (n : ℕ) (xs : List A) → list_all lawful xs ≡ true → Keeps s (each one s n xs)
  each_keeps s n [] all = λ h. h
  each_keeps s n (a ∷ rest) all =
      first_keeps s n rest (one s n a)
      (keeps s n a (left_true (lawful a) (list_all lawful rest) all))
      (λ m. each_keeps m (n + 1) rest (right_true (lawful a) (list_all lawful rest) all))

abbrev any : {A : Type 0} → A → Bool
any a = true

all_any : {A : Type 0} (xs : List A) → list_all any xs ≡ true
all_any [] = refl
all_any (x ∷ xs) = all_any xs

label_keeps : (enum : ℕ) (s : Scope) (n : ℕ) (x : Name) → any x ≡ true → Keeps s (label_decl enum s n x)
label_keeps enum s n x lawful =
    taken_keeps s x.at (find s x.text) (Ok (record { plan = x.text; scope = s ++ entry x (meaning.Label enum n) ∷ [] }))
    (more_few s (entry x (meaning.Label enum n)) refl)

enum_keeps : (s : Scope) (n : ℕ) (d : EnumDecl) → any d ≡ true → Keeps s (enum_decl s n d)
enum_keeps s n d lawful =
    let m = s ++ entry d.name (meaning.Enum n) ∷ [] in
    taken_keeps s d.name.at (find s d.name.text) (and_then (λ labels. Ok (record { plan = record { labels = labels.plan }; scope = labels.scope })) (each (label_decl n) m 0 d.labels))
    (then_keeps s m (each (label_decl n) m 0 d.labels) (λ labels. record { labels = labels })
    (more_few s (entry d.name (meaning.Enum n)) refl)
    (each_keeps (label_decl n) any (label_keeps n) m 0 d.labels (all_any d.labels)))

field_keeps : (s : Scope) (n : ℕ) (d : FieldDecl) → any d ≡ true → Keeps s (field_decl s n d)
field_keeps s n d lawful =
    taken_keeps s d.name.at (find s d.name.text) _
    (bind_keeps s (kind_of (unfinished s d.name) d.kind) _ (λ k.
    bind_keeps s (default_of (unfinished s d.name) k d.default) _ (λ empty.
    more_few s (entry d.name (meaning.Value k (var.Field n))) refl)))

-- As many kinds as parts.
abbrev HasKinds : ℕ → Result PlannedParts CheckErr → Type 0
HasKinds n (Ok p) = length p.kinds ≡ n
HasKinds n (Err e) = Unit {0}

bind_kinds : {A : Type 0} (n : ℕ) (r : Result A CheckErr) (f : A → Result PlannedParts CheckErr) → ((a : A) → HasKinds n (f a)) → HasKinds n (and_then f r)
bind_kinds n (Ok a) f h = h a
bind_kinds n (Err e) f h = tt

more_kinds : (k : KindPlan) (v : Value) (n : ℕ) (o : Result PlannedParts CheckErr) → HasKinds n o → HasKinds (suc n) (and_then (λ p. Ok (record { kinds = k ∷ p.kinds; firsts = v ∷ p.firsts })) o)
more_kinds k v n (Ok p) h = ap suc h
more_kinds k v n (Err e) h = tt

part_kinds : (s : Scope) (parts : List Part) → HasKinds (length parts) (parts_of s parts)
part_kinds s [] = refl
part_kinds s (d ∷ rest) =
    bind_kinds (length (d ∷ rest)) (kind_of s d.kind) _ (λ k.
    bind_kinds (length (d ∷ rest)) (literal_of s k d.first) _ (λ v.
    more_kinds k v (length rest) (parts_of s rest) (part_kinds s rest)))

abbrev IsFewCell : Result PlannedCell CheckErr → Type 0
IsFewCell (Ok c) = has_few_parts c.meaning ≡ true
IsFewCell (Err e) = Unit {0}

few_if : (b : Bool) (c : PlannedCell) (e : CheckErr) → has_few_parts c.meaning ≡ true → IsFewCell (if b then Ok c else Err e)
few_if true c e h = h
few_if false c e h = tt

few_of_count : (n k : ℕ) → is_between 1 max_parts n ≡ true → k ≡ n → nat_lt k 65536 ≡ true
few_of_count n k h e = grind (arith, nat_tests)

few_hold : (n count : ℕ) (o : Result PlannedParts CheckErr) → is_between 1 max_parts count ≡ true → HasKinds count o → IsFewCell (and_then (λ p. Ok (record { plan = cell_plan.Hold p.kinds p.firsts; meaning = meaning.HoldCell n p.kinds })) o)
few_hold n count (Ok p) lawful h = few_of_count count (length p.kinds) lawful h
few_hold n count (Err e) lawful h = tt

few_enum : (n enum : ℕ) (o : Result ℕ CheckErr) → IsFewCell (and_then (λ l. Ok (record { plan = cell_plan.Enum enum l; meaning = meaning.EnumCell n enum })) o)
few_enum n enum (Ok l) = refl
few_enum n enum (Err e) = tt

bind_cell : {A : Type 0} (r : Result A CheckErr) (f : A → Result PlannedCell CheckErr) → ((a : A) → IsFewCell (f a)) → IsFewCell (and_then f r)
bind_cell (Ok a) f h = h a
bind_cell (Err e) f h = tt

few_cell : (s : Scope) (n at : ℕ) (c : CellDecl) → is_lawful_cell c ≡ true → IsFewCell (cell_of s n at c)
few_cell s n at (cell.Int lo hi first clamp) lawful = few_if (int_le lo first && int_le first hi) _ _ refl
few_cell s n at (cell.Nums lo hi clamp) lawful = few_if (int_le lo hi) _ _ refl
few_cell s n at cell.Words lawful = refl
few_cell s n at (cell.Hold parts) lawful =
    few_hold n (length parts) (parts_of s parts)
    (left_true (is_between 1 max_parts (length parts)) (list_all is_lawful_part parts) lawful)
    (part_kinds s parts)
few_cell s n at (cell.Enum of first) lawful =
    bind_cell (enum_named of.at (find s of.text)) _ (λ enum. few_enum n enum (label_named enum first.at (find s first.text)))

cell_keeps : (s : Scope) (x : Name) (o : Result PlannedCell CheckErr) → IsFewCell o → Keeps s (and_then (λ c. Ok (record { plan = c.plan; scope = s ++ entry x c.meaning ∷ [] })) o)
cell_keeps s x (Ok c) h = more_few s (entry x c.meaning) h
cell_keeps s x (Err e) h = tt

state_keeps : (s : Scope) (n : ℕ) (d : StateDecl) → is_lawful_state d ≡ true → Keeps s (state_decl s n d)
state_keeps s n d lawful =
    taken_keeps s d.name.at (find s d.name.text) _
    (cell_keeps s d.name (cell_of (unfinished s d.name) n d.name.at d.cell)
    (few_cell (unfinished s d.name) n d.name.at d.cell (right_true (is_lawful_name d.name) (is_lawful_cell d.cell) lawful)))

test_keeps : (names : List (List ℕ)) (s : Scope) (n : ℕ) (d : TestTree) → any d ≡ true → Keeps s (test_decl names s n d)
test_keeps names s n d lawful =
    taken_keeps s d.name.at (find s d.name.text) _
    (bind_keeps s (each (param_decl names (unfinished s d.name)) [] 0 d.params) _ (λ params.
    bind_keeps s (infer (in_tests s ++ params.scope) d.body) _ (λ t.
    bind_keeps s (condition (place d.body) t) _ (λ c.
    more_few s (entry d.name (meaning.Test n params.plan)) refl))))

kept_by : {B : Type 0} (s : Scope) (r : Result (Planned B) CheckErr) (b : B) (m : Scope) → Keeps s r → r ≡ Ok (record { plan = b; scope = m }) → HaveFewParts s → HaveFewParts m
kept_by {B} s r b m k e = let P : Result (Planned B) CheckErr → Type 0 = λ o. Keeps s o in subst P e k

-- So has the scope after all declarations of a lawful script.
pub declared_few : (t : ScriptTree) (es : List EnumPlan) (fs : List FieldPlan) (g : List ℕ) (cs : List CellPlan) (ts : List TestOf) (s : Scope)
    → IsLawful t
    → HasDeclarations t es fs g cs ts s
    → HaveFewParts s
declared_few t es fs g cs ts s lawful d =
    kept_by d.cell_scope (each (test_decl (names t)) d.cell_scope 0 t.tests) ts s (each_keeps (test_decl (names t)) any (test_keeps (names t)) d.cell_scope 0 t.tests (all_any t.tests)) d.tests
    (kept_by d.field_scope (each state_decl d.field_scope 0 t.states) cs d.cell_scope (each_keeps state_decl is_lawful_state state_keeps d.field_scope 0 t.states lawful.cells) d.cells
    (kept_by d.enum_scope (each field_decl d.enum_scope 0 t.fields) fs d.field_scope (each_keeps field_decl any field_keeps d.enum_scope 0 t.fields (all_any t.fields)) d.fields
    (kept_by [] (each enum_decl [] 0 t.enums) es d.enum_scope (each_keeps enum_decl any enum_keeps [] 0 t.enums (all_any t.enums)) d.enums refl)))
