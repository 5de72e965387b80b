-- The plan of a lawful script that is accepted is well formed.
use Rattle.std.proofs.Common.{◌≡◌, refl, sym, ℕ, suc, ◌+◌, ◌<◌, ◌≤◌, nat_le, ℤ, Bool, true, ◌&&◌, ◌++◌, IfSome, length, List, [], ◌∷◌, Option, Some, slice_get, All, arith}
use Rattle.std.specs.List.{list_all}
use Rattle.std.proofs.lemmas.Bool.{leb-true}
use Rattle.std.proofs.lemmas.List.{length-map}
use Rattle.std.proofs.lemmas.List.Elements.{All-cons, All-nil}
use Rattle.std.proofs.lemmas.Option.{slice_get_within, slice_get-map}
use Rattle.sym_base.specs.declared.tree.name.Name.{Name}
use Rattle.sym_base.specs.declared.tree.declaration.KindRef.{KindRef}
use Rattle.sym_base.specs.declared.tree.declaration.Literal.{Literal}
use Rattle.sym_base.specs.declared.tree.declaration.Part.{Part}
use Rattle.sym_base.specs.declared.tree.declaration.CellDecl.{CellDecl}
use Rattle.sym_base.specs.declared.values.value.Value.{Value}
use Rattle.sym_base.specs.Limits.{IsNumber, is_number, max_labels, max_cells, max_parameters, max_depth, max_parts}
use Rattle.sym_base.specs.Sizes.{expr_depth}
use Rattle.sym_base.specs.Lawful.{IsLawful, is_between, is_lawful_name, is_absent_or, is_lawful_text, is_lawful_kind, is_lawful_literal, is_lawful_enum, is_lawful_field, is_lawful_part, is_lawful_cell, is_lawful_state, is_lawful_param, is_lawful_test, is_lawful_column, is_lawful_expr, has_lawful_leaves}
use Rattle.sym_base.specs.Trees.{ExprTree, ScriptTree}
use Rattle.sym_base.proofs.Numbers.{number-Decides}
use Rattle.sym_check.specs.declared.plan.script.FieldPlan.{FieldPlan}
use Rattle.sym_check.specs.declared.plan.script.KindPlan.{KindPlan}
use Rattle.sym_check.specs.declared.plan.script.CellPlan.{CellPlan}
use Rattle.sym_check.specs.Plan.ShowPlans.{ShowPlan}
use Rattle.sym_check.specs.Meaning.Columns.{ShownAs, Shows, IsColumnOf}
use Rattle.sym_check.specs.Meaning.Columns as columns
use Rattle.sym_check.specs.Plan.ScriptPlans.{ScriptPlan, TestOf}
use Rattle.sym_check.specs.declared.elaborate.scope.Variable.TheVariants as var
use Rattle.sym_check.specs.declared.elaborate.scope.View.TheVariants as view
use Rattle.sym_check.specs.declared.elaborate.scope.Meaning.{Meaning}
use Rattle.sym_check.specs.declared.elaborate.scope.Meaning.TheVariants as meaning
use Rattle.sym_check.specs.Rules.Scopes.{Scope, entry, is_label, hidden, in_tests, in_update, in_report}
use Rattle.sym_check.specs.Rules.InOrder.{Each, none, one_more}
use Rattle.sym_check.specs.Rules.Declarations.{unfinished, IsKindOf, IsLiteral, IsDefault, IsLabelDecl, IsEnumDecl, IsFieldDecl, IsGroupField, AreParts, IsCellDecl, IsStateDecl, IsParamDecl, IsTestDecl}
use Rattle.sym_check.specs.Rules.Declarations as is
use Rattle.sym_check.specs.Rules.Reports.{IsShown, IsColumnDecl}
use Rattle.sym_check.specs.Rules.Reports as report
use Rattle.sym_check.specs.Rules.Scripts.{names, IsAccepted}
use Rattle.sym_check.specs.Meaning.Validity.{IsOfKind, AreOfKinds, field_kinds}
use Rattle.sym_check.specs.Plan.WellFormed.{IsKind, IsField, IsCell, IsTest, parameter_kinds, known_kinds, IsEnum, IsWellFormed}
use Rattle.sym_check.proofs.ScopesNamed.{IsThere, AreThere, there_more, there_both, there_seen, stands_there, both_true, unsigned_number, condition_well}
use Rattle.sym_check.proofs.BlocksNamed.{expr_leaves, block_well}

-- These stand in the whole list, from this number on.
abbrev StandFrom : {A : Type 0} → List A → ℕ → List A → Type 0
StandFrom {A} all n items = (i j : ℕ) → j ≡ n + i → slice_get items i ≡ slice_get all j

from_start : {A : Type 0} (items : List A) → StandFrom items 0 items
from_start items i j e = let same : i ≡ j = omega arith in rw same refl

first_stands : {A : Type 0} (all : List A) (n : ℕ) (a : A) (rest : List A) → StandFrom all n (a ∷ rest) → slice_get all n ≡ Some a
first_stands all n a rest h = sym (h 0 n (omega arith))

rest_stand : {A : Type 0} (all : List A) (n : ℕ) (a : A) (rest : List A) → StandFrom all n (a ∷ rest) → StandFrom all (n + 1) rest
rest_stand all n a rest h i j e = h (suc i) j (omega arith)

-- Declarations one after the other keep what holds of a scope, and each plan is as it is to be.
abbrev Keeps : {A B : Type 0} → (Scope → ℕ → A → B → Scope → Type 0) → (A → Bool) → (Scope → Type 0) → (B → Type 0) → List B → Type 0
Keeps {A} {B} One lawful There Is all = (s later : Scope) (n : ℕ) (a : A) (b : B) → One s n a b later → lawful a ≡ true → slice_get all n ≡ Some b → There s → There later × Is b

module _ {A B : Type 0} (One : Scope → ℕ → A → B → Scope → Type 0) (lawful : A → Bool) (There : Scope → Type 0) (Is : B → Type 0) (all : List B) (step : Keeps One lawful There Is all) where
  each_from : (s later : Scope) (n : ℕ) (items : List A) (bs : List B) → Each One s n items bs later → list_all lawful items ≡ true → StandFrom all n bs → There s → There later × All Is bs
  each_from _ _ _ _ _ (none s n) h stand there = (there, All-nil Is)
  each_from _ _ _ _ _ (one_more s m later n a rest b bs i others) h stand there =
      let (first, last) = both_true (lawful a) (list_all lawful rest) h in
      let (now, is) = step s m n a b i first (first_stands all n b bs stand) there in
      let (after, are) = each_from m later (n + 1) rest bs others last (rest_stand all n b bs stand) now in
      (after, All-cons Is b bs is are)

each_keeps : {A B : Type 0} (One : Scope → ℕ → A → B → Scope → Type 0) (lawful : A → Bool) (There : Scope → Type 0) (Is : B → Type 0) (bs : List B) → Keeps One lawful There Is bs → (s later : Scope) (items : List A) → Each One s 0 items bs later → list_all lawful items ≡ true → There s → There later × All Is bs
each_keeps One lawful There Is bs step s later items i h there = each_from One lawful There Is bs step s later 0 items bs i h (from_start bs) there

pub each_long : {A B : Type 0} (One : Scope → ℕ → A → B → Scope → Type 0) (s later : Scope) (n : ℕ) (items : List A) (bs : List B) → Each One s n items bs later → length bs ≡ length items
each_long One _ _ _ _ _ (none s n) = refl
each_long One _ _ _ _ _ (one_more s m later n a rest b bs i others) = let long : length bs ≡ length rest = each_long One m later (n + 1) rest bs others in omega arith

between : (least most n : ℕ) → is_between least most n ≡ true → (least ≤ n) × (n ≤ most)
between least most n h = let (low, high) = both_true (nat_le least n) (nat_le n most) h in (leb-true least n low, leb-true n most high)

number_is : (n : ℤ) → is_number n ≡ true → IsNumber n
number_is n h = (number-Decides n).0 h

-- Declarations in scopes whose names stand for what is there.
module _ (p : ScriptPlan) where
  abbrev There : Scope → Type 0
  There s = AreThere p (known_kinds p) s

  -- A name in its own declaration.
  unfinished_there : (s : Scope) (x : Name) → There s → There (unfinished s x)
  unfinished_there s x h = there_more p (known_kinds p) s (entry x meaning.Unfinished) h tt

  label_keeps : (n : ℕ) (labels : List (List ℕ)) → slice_get p.enums n ≡ Some (record { labels = labels }) → Keeps (IsLabelDecl n) is_lawful_name There (λ (l : List ℕ). Unit {0}) labels
  label_keeps n labels e _ _ _ _ _ (is.label s i x free) h stands there =
      let within : i < length labels = slice_get_within labels i x.text stands in
      (there_more p (known_kinds p) s (entry x (meaning.Label n i)) there (rw e within), tt)

  enum_keeps : Keeps IsEnumDecl is_lawful_enum There IsEnum p.enums
  enum_keeps _ _ _ _ _ (is.enum s later n d labels free each) h stands there =
      let (names, lawful) = both_true (is_lawful_name d.name && is_between 1 max_labels (length d.labels)) (list_all is_lawful_name d.labels) h in
      let (name, count) = both_true (is_lawful_name d.name) (is_between 1 max_labels (length d.labels)) names in
      let begun : There (s ++ entry d.name (meaning.Enum n) ∷ []) = there_more p (known_kinds p) s (entry d.name (meaning.Enum n)) there (slice_get_within p.enums n (record { labels = labels }) stands) in
      let (ended, each_is) = each_keeps (IsLabelDecl n) is_lawful_name There (λ (l : List ℕ). Unit {0}) labels (label_keeps n labels stands) (s ++ entry d.name (meaning.Enum n) ∷ []) later d.labels each lawful begun in
      let long : length labels ≡ length d.labels = each_long (IsLabelDecl n) (s ++ entry d.name (meaning.Enum n) ∷ []) later 0 d.labels labels each in
      (ended, rw long (between 1 max_labels (length d.labels) count))

  kind_well : (s : Scope) (d : KindRef) (k : KindPlan) → There s → IsKindOf s d k → IsKind p.enums k
  kind_well s _ _ there is.num_kind = tt
  kind_well s _ _ there is.word_kind = tt
  kind_well s _ _ there (is.label_kind x enum t) = stands_there p (known_kinds p) s x (meaning.Enum enum) there t

  literal_well : (s : Scope) (k : KindPlan) (d : Literal) (v : Value) → There s → is_lawful_literal d ≡ true → IsLiteral s k d v → IsOfKind p.enums k v
  literal_well s _ _ _ there h (is.num_literal n at) = number_is n h
  literal_well s _ _ _ there h (is.text_literal t at) = tt
  literal_well s _ _ _ there h (is.label_literal x enum l t) = stands_there p (known_kinds p) s x (meaning.Label enum l) there t

  default_well : (s : Scope) (k : KindPlan) (d : Option Literal) (empty : Option Value) → There s → is_absent_or is_lawful_literal d ≡ true → IsDefault s k d empty → IfSome empty (λ v. IsOfKind p.enums k v)
  default_well s k _ _ there h is.no_default = tt
  default_well s k _ _ there h (is.default d v i) = literal_well s k d v there h i

  field_there : (n : ℕ) (f : FieldPlan) → slice_get p.fields n ≡ Some f → slice_get (field_kinds p) n ≡ Some f.kind
  field_there n f e = rw (slice_get-map (λ (g : FieldPlan). g.kind) p.fields n, e)

  field_keeps : Keeps IsFieldDecl is_lawful_field There (IsField p.enums) p.fields
  field_keeps _ _ _ _ _ (is.field s n d k empty free i j) h stands there =
      let (first, lawful) = both_true (is_lawful_name d.name && is_absent_or is_lawful_text d.header && is_lawful_kind d.kind) (is_absent_or is_lawful_literal d.default) h in
      let begun : There (unfinished s d.name) = unfinished_there s d.name there in (
        there_more p (known_kinds p) s (entry d.name (meaning.Value k (var.Field n))) there (field_there n _ stands),
        record { kind = kind_well (unfinished s d.name) d.kind k begun i; empty = default_well (unfinished s d.name) k d.default empty begun lawful j },
      )

  group_keeps : (s : Scope) → There s → Keeps (IsGroupField s) is_lawful_name (λ (named : Scope). Unit {0}) (λ (g : ℕ). g < length p.fields) p.group
  group_keeps s there _ _ _ _ _ (is.group_field named i n x k free t) h stands begun =
      let is_there : slice_get (field_kinds p) n ≡ Some k = stands_there p (known_kinds p) s x (meaning.Value k (var.Field n)) there t in
      let within : n < length (field_kinds p) = slice_get_within (field_kinds p) n k is_there in
      (tt, rw length-map at within)

  parts_well : (s : Scope) (d : List Part) (ks : List KindPlan) (vs : List Value) → There s → list_all is_lawful_part d ≡ true → AreParts s d ks vs → All (IsKind p.enums) ks × AreOfKinds p.enums ks vs
  parts_well s _ _ _ there h is.no_parts = (All-nil (IsKind p.enums), tt)
  parts_well s _ _ _ there h (is.more_parts d rest k ks v vs i j are) =
      let (first, last) = both_true (is_lawful_part d) (list_all is_lawful_part rest) h in
      let (named, lawful) = both_true (is_lawful_kind d.kind) (is_lawful_literal d.first) first in
      let (kinds, values) = parts_well s rest ks vs there last are in
      (All-cons (IsKind p.enums) k ks (kind_well s d.kind k there i) kinds, (literal_well s k d.first v there lawful j, values))

  cell_well : (s : Scope) (n : ℕ) (d : CellDecl) (c : CellPlan) (m : Meaning) → There s → is_lawful_cell d ≡ true → slice_get p.cells n ≡ Some c → IsCellDecl s n d c m → IsThere p (known_kinds p) m × IsCell p.enums c
  cell_well s n _ _ _ there h e (is.int lo hi first clamp i) =
      let (ends, last) = both_true (is_number lo && is_number hi) (is_number first) h in
      let (low, high) = both_true (is_number lo) (is_number hi) ends in
      (record { lo = lo; hi = hi; first = first; clamp = clamp; is = e }, (number_is lo low, number_is hi high, i))
  cell_well s n _ _ _ there h e (is.nums lo hi clamp i) =
      let (low, high) = both_true (is_number lo) (is_number hi) h in
      (record { lo = lo; hi = hi; clamp = clamp; is = e }, (number_is lo low, number_is hi high, i))
  cell_well s n _ _ _ there h e is.words = (record { is = e }, tt)
  cell_well s n _ _ _ there h e (is.hold parts ks vs are) =
      let (count, lawful) = both_true (is_between 1 max_parts (length parts)) (list_all is_lawful_part parts) h in
      (record { first = vs; is = e }, parts_well s parts ks vs there lawful are)
  cell_well s n _ _ _ there h e (is.enum_cell of first enum l t u) =
      (record { first = l; is = e }, stands_there p (known_kinds p) s first (meaning.Label enum l) there u)

  state_keeps : Keeps IsStateDecl is_lawful_state There (IsCell p.enums) p.cells
  state_keeps _ _ _ _ _ (is.state s n d c m free i) h stands there =
      let (named, lawful) = both_true (is_lawful_name d.name) (is_lawful_cell d.cell) h in
      let (is_there, is_cell) = cell_well (unfinished s d.name) n d.cell c m (unfinished_there s d.name there) lawful stands i in
      (there_more p (known_kinds p) s (entry d.name m) there is_there, is_cell)

  -- In a test's body the plan has neither cells nor tests.
  abbrev body_plan : ScriptPlan
  body_plan = record p { cells = []; tests = [] }

  param_keeps : (taken : List (List ℕ)) (s : Scope) (t : TestOf) → There s → Keeps (IsParamDecl taken s) is_lawful_param (AreThere body_plan (parameter_kinds t)) (IsKind p.enums) t.params
  param_keeps taken s t there _ _ _ _ _ (is.param params n d k new free i) h stands given =
      (there_more body_plan (parameter_kinds t) params (entry d.name (meaning.Value k (var.Param n))) given stands, kind_well s d.kind k there i)

  label_there : (t : TestOf) (m : Meaning) → is_label m ≡ true → IsThere p (known_kinds p) m → IsThere body_plan (parameter_kinds t) m
  label_there t (meaning.Label enum l) e h = h
  label_there t _ e h = absurd (cc)

  test_keeps : (taken : List (List ℕ)) → Keeps (IsTestDecl taken) is_lawful_test There (IsTest p) p.tests
  test_keeps taken _ _ _ _ _ (is.test s params n d ks c free each i) h stands there =
      let (first, depth) = both_true (is_lawful_name d.name && is_between 1 max_parameters (length d.params) && list_all is_lawful_param d.params && is_lawful_expr d.body) (nat_le (expr_depth d.body) max_depth) h in
      let (second, body) = both_true (is_lawful_name d.name && is_between 1 max_parameters (length d.params) && list_all is_lawful_param d.params) (is_lawful_expr d.body) first in
      let (third, lawful) = both_true (is_lawful_name d.name && is_between 1 max_parameters (length d.params)) (list_all is_lawful_param d.params) second in
      let t : TestOf = record { params = ks; body = c } in
      let begun : There (unfinished s d.name) = unfinished_there s d.name there in
      let (given, kinds) = each_keeps (IsParamDecl taken (unfinished s d.name)) is_lawful_param (AreThere body_plan (parameter_kinds t)) (IsKind p.enums) ks (param_keeps taken (unfinished s d.name) t begun) [] params d.params each lawful tt in
      let seen : AreThere body_plan (parameter_kinds t) (in_tests s ++ params) = there_both body_plan (parameter_kinds t) (in_tests s) params (there_seen p body_plan (known_kinds p) (parameter_kinds t) view.Tests s (label_there t) there) given in (
        there_more p (known_kinds p) s (entry d.name (meaning.Test n ks)) there (record { there = t; is = stands; params = refl }),
        record { kinds = kinds; body = condition_well body_plan (parameter_kinds t) (in_tests s ++ params) seen d.body c (expr_leaves d.body body) i },
      )

  -- Columns.
  shown_well : (s : Scope) (e : ExprTree) (g : ShownAs) (o : ShowPlan) → There s → has_lawful_leaves e ≡ true → IsShown s e g o → Shows p.cells o g
  shown_well s _ _ _ there h (report.numeral n at) = columns.number n (unsigned_number n h)
  shown_well s _ _ _ there h (report.text t at) = columns.word t
  shown_well s _ _ _ there h (report.int_cell x c t) = columns.int_cell c (stands_there p (known_kinds p) s x (meaning.IntCell c) there t)
  shown_well s _ _ _ there h (report.enum_cell x c enum t) = columns.enum_cell c enum (stands_there p (known_kinds p) s x (meaning.EnumCell c enum) there t)
  shown_well s _ _ _ there h (report.nums_cell x c t) = columns.nums_cell c (stands_there p (known_kinds p) s x (meaning.NumsCell c) there t)
  shown_well s _ _ _ there h (report.words_cell x c t) = columns.words_cell c (stands_there p (known_kinds p) s x (meaning.WordsCell c) there t)
  shown_well s _ _ _ there h (report.part f x c k at ks of e t least j) = columns.part c k ks of (stands_there p (known_kinds p) s x (meaning.HoldCell c ks) there t) least j
  shown_well s _ _ _ there h (report.of_nums f x g c e t) = columns.of_nums g c (stands_there p (known_kinds p) s x (meaning.NumsCell c) there t)
  shown_well s _ _ _ there h (report.of_words f x g c e t any) = columns.of_words g c (stands_there p (known_kinds p) s x (meaning.WordsCell c) there t) any
  shown_well s _ _ _ there h (report.negative e at o i) = columns.negative o (shown_well s e _ o there h i)
  shown_well s _ _ _ there h (report.calculated o a l r at x y e i j) =
      let b = both_true (has_lawful_leaves l) (has_lawful_leaves r) h in
      columns.calculated a x y (shown_well s l _ x there b.0 i) (shown_well s r _ y there b.1 j)

  column_keeps : (s : Scope) → There s → Keeps (IsColumnDecl s) is_lawful_column (λ (c : Scope). Unit {0}) (IsColumnOf p.cells) p.columns
  column_keeps s there _ _ _ _ _ (report.column before n d g o free i) h stands begun =
      let (first, depth) = both_true (is_lawful_name d.name && is_lawful_expr d.value) (nat_le (expr_depth d.value) max_depth) h in
      let (named, lawful) = both_true (is_lawful_name d.name) (is_lawful_expr d.value) first in
      (tt, record { gives = g; shows = shown_well s d.value g o there (expr_leaves d.value lawful) i })

pub accepted_well : (t : ScriptTree) (p : ScriptPlan) → IsLawful t → IsAccepted t p → IsWellFormed p
accepted_well t p lawful i =
    let h = i.has_plan in
    let d = h.declared in
    let (enum_scope, enums) = each_keeps IsEnumDecl is_lawful_enum (There p) IsEnum p.enums (enum_keeps p) [] d.fields.enum_scope t.enums d.fields.enums lawful.enums tt in
    let (field_scope, fields) = each_keeps IsFieldDecl is_lawful_field (There p) (IsField p.enums) p.fields (field_keeps p) d.fields.enum_scope d.field_scope t.fields d.fields.fields lawful.fields enum_scope in
    let (cell_scope, cells) = each_keeps IsStateDecl is_lawful_state (There p) (IsCell p.enums) p.cells (state_keeps p) d.field_scope d.cell_scope t.states d.cells lawful.cells field_scope in
    let (scope, tests) = each_keeps (IsTestDecl (names t)) is_lawful_test (There p) (IsTest p) p.tests (test_keeps p (names t)) d.cell_scope h.scope t.tests d.tests lawful.tests cell_scope in
    let updated : There p (in_update h.scope) = there_seen p p (known_kinds p) (known_kinds p) view.Update h.scope (λ m e x. x) scope in
    let reported : There p (in_report h.scope) = there_seen p p (known_kinds p) (known_kinds p) view.Report h.scope (λ m e x. x) scope in
    let (named, columns_are) = each_keeps (IsColumnDecl (in_report h.scope)) is_lawful_column (λ (c : Scope). Unit {0}) (IsColumnOf p.cells) p.columns (column_keeps p (in_report h.scope) reported) [] h.names t.columns h.columns lawful.columns tt in
    let (line, group) = each_keeps (IsGroupField d.field_scope) is_lawful_name (λ (named : Scope). Unit {0}) (λ (g : ℕ). g < length p.fields) p.group (group_keeps p d.field_scope field_scope) [] d.fields.group.named t.group d.fields.group.each lawful.group tt in
    let grouped : length p.group ≡ length t.group = each_long (IsGroupField d.field_scope) [] d.fields.group.named 0 t.group p.group d.fields.group.each in
    let long : length p.cells ≡ length t.states = each_long IsStateDecl d.field_scope d.cell_scope 0 t.states p.cells d.cells in
    let few : length t.states ≤ max_cells = (between 1 max_cells (length t.states) lawful.cell_count).1 in
    record {
      enums = enums;
      fields = fields;
      group_count = rw grouped lawful.group_count;
      group = group;
      cell_count = rw long few;
      cells = cells;
      tests = tests;
      update = (block_well p (hidden h.scope) (in_update h.scope) 0 h.locals t.update p.update h.update (known_kinds p) updated (omega arith) lawful.statements).is;
      columns = columns_are;
    }
