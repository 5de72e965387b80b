-- The first broken rule in declarations, with its place. The faults of a declaration come in the
-- order of its text.
use Rattle.std.specs.Prelude.{◌≡◌, ℕ, ℤ, ◌≤ℤ◌, Bool, List, [], ◌∷◌, ◌++◌, Some}
use Rattle.std.specs.List.{Contains}
use Rattle.sym_base.specs.declared.tree.name.Name.{Name}
use Rattle.sym_base.specs.declared.tree.declaration.EnumDecl.{EnumDecl}
use Rattle.sym_base.specs.declared.tree.declaration.FieldDecl.{FieldDecl}
use Rattle.sym_base.specs.declared.tree.declaration.KindRef.{KindRef}
use Rattle.sym_base.specs.declared.tree.declaration.KindRef.TheVariants as ref
use Rattle.sym_base.specs.declared.tree.declaration.Literal.{Literal}
use Rattle.sym_base.specs.declared.tree.declaration.Literal.TheVariants as literal
use Rattle.sym_base.specs.declared.tree.declaration.Part.{Part}
use Rattle.sym_base.specs.declared.tree.declaration.CellDecl.{CellDecl}
use Rattle.sym_base.specs.declared.tree.declaration.CellDecl.TheVariants as cell
use Rattle.sym_base.specs.declared.tree.declaration.StateDecl.{StateDecl}
use Rattle.sym_base.specs.declared.tree.declaration.Param.{Param}
use Rattle.sym_base.specs.declared.values.value.Value.{Value}
use Rattle.sym_base.specs.Trees.{TestTree}
use Rattle.sym_check.specs.declared.plan.script.KindPlan.{KindPlan}
use Rattle.sym_check.specs.declared.plan.script.KindPlan.TheVariants as kind
use Rattle.sym_check.specs.Plan.CondPlans.{CondPlan}
use Rattle.sym_check.specs.declared.elaborate.error.CheckErr.{CheckErr}
use Rattle.sym_check.specs.declared.elaborate.error.CheckErr.TheVariants as broken
use Rattle.sym_check.specs.declared.elaborate.scope.Variable.TheVariants as var
use Rattle.sym_check.specs.declared.elaborate.scope.Meaning.{Meaning}
use Rattle.sym_check.specs.Rules.Scopes.{Scope, entry, Stands, IsFree, in_tests}
use Rattle.sym_check.specs.declared.elaborate.scope.Meaning.TheVariants as meaning
use Rattle.sym_check.specs.Rules.Typing.{Typed, Means, IsCondition}
use Rattle.sym_check.specs.Breaks.Expressions.{place, Breaks}
use Rattle.sym_check.specs.Plan.Ranges.{InRange}
use Rattle.sym_check.specs.Rules.InOrder.{Each, FirstBroken}
use Rattle.sym_check.specs.Rules.Declarations.{unfinished, IsKindOf, IsLiteral, IsLabelDecl, IsGroupField, IsParamDecl}

-- A name that is to stand for an enum.
pub data BreaksKind (s : Scope) : KindRef → CheckErr → Type 0 where
  unknown_kind : (x : Name) → IsFree s x → BreaksKind s (ref.Named x) (broken.Name x.at)
  no_enum : (x : Name) (m : Meaning)
      → Stands s x m
      → ((enum : ℕ) → m ≡ meaning.Enum enum → ⊥)
      → BreaksKind s (ref.Named x) (broken.Kind x.at)

abbrev pub literal_place : Literal → ℕ
literal_place (literal.Num n at) = at
literal_place (literal.Text t at) = at
literal_place (literal.Named x) = x.at

-- A label's name stands for something.
abbrev pub IsVisible : Scope → Literal → Type 0
IsVisible s (literal.Num n at) = Unit {0}
IsVisible s (literal.Text t at) = Unit {0}
IsVisible s (literal.Named x) = (m : Meaning) × Stands s x m

pub data BreaksLiteral (s : Scope) (k : KindPlan) : Literal → CheckErr → Type 0 where
  unknown_label : (x : Name) → IsFree s x → BreaksLiteral s k (literal.Named x) (broken.Name x.at)
  other_kind : (l : Literal)
      → IsVisible s l
      → ((v : Value) → IsLiteral s k l v → ⊥)
      → BreaksLiteral s k l (broken.Kind (literal_place l))

pub data BreaksLabel (s : Scope) (n : ℕ) : Name → CheckErr → Type 0 where
  label_taken : (x : Name) (m : Meaning) → Stands s x m → BreaksLabel s n x (broken.Twice x.at)

pub data BreaksEnum (s : Scope) (n : ℕ) : EnumDecl → CheckErr → Type 0 where
  enum_taken : (d : EnumDecl) (m : Meaning)
      → Stands s d.name m
      → BreaksEnum s n d (broken.Twice d.name.at)
  in_labels : (d : EnumDecl) (f : CheckErr)
      → IsFree s d.name
      → FirstBroken (IsLabelDecl n) BreaksLabel (s ++ entry d.name (meaning.Enum n) ∷ []) 0
      d.labels f
      → BreaksEnum s n d f

pub data BreaksField (s : Scope) (n : ℕ) : FieldDecl → CheckErr → Type 0 where
  field_taken : (d : FieldDecl) (m : Meaning)
      → Stands s d.name m
      → BreaksField s n d (broken.Twice d.name.at)
  in_field_kind : (d : FieldDecl) (f : CheckErr)
      → IsFree s d.name
      → BreaksKind (unfinished s d.name) d.kind f
      → BreaksField s n d f
  in_default : (d : FieldDecl) (k : KindPlan) (l : Literal) (f : CheckErr)
      → IsFree s d.name
      → IsKindOf (unfinished s d.name) d.kind k
      → d.default ≡ Some l
      → BreaksLiteral (unfinished s d.name) k l f
      → BreaksField s n d f

-- `named` are the earlier names of the group line.
pub data BreaksGroupField (s named : Scope) (i : ℕ) : Name → CheckErr → Type 0 where
  named_twice : (x : Name) (m : Meaning)
      → Stands named x m
      → BreaksGroupField s named i x (broken.Twice x.at)
  unknown_field : (x : Name)
      → IsFree named x
      → IsFree s x
      → BreaksGroupField s named i x (broken.Name x.at)
  no_field : (x : Name) (m : Meaning)
      → IsFree named x
      → Stands s x m
      → ((k : KindPlan) (n : ℕ) → m ≡ meaning.Value k (var.Field n) → ⊥)
      → BreaksGroupField s named i x (broken.Kind x.at)

abbrev pub BreaksGroup : Scope → List Name → CheckErr → Type 0
BreaksGroup s group f = FirstBroken (IsGroupField s) (BreaksGroupField s) [] 0 group f

-- Parts go one by one, a kind before its literal.
pub data BreaksParts (s : Scope) : List Part → CheckErr → Type 0 where
  in_part_kind : (d : Part) (rest : List Part) (f : CheckErr)
      → BreaksKind s d.kind f
      → BreaksParts s (d ∷ rest) f
  in_part_literal : (d : Part) (rest : List Part) (k : KindPlan) (f : CheckErr)
      → IsKindOf s d.kind k
      → BreaksLiteral s k d.first f
      → BreaksParts s (d ∷ rest) f
  in_other_parts : (d : Part) (rest : List Part) (k : KindPlan) (v : Value) (f : CheckErr)
      → IsKindOf s d.kind k
      → IsLiteral s k d.first v
      → BreaksParts s rest f
      → BreaksParts s (d ∷ rest) f

-- `at` is the place of the state's name.
pub data BreaksCell (s : Scope) (at : ℕ) : CellDecl → CheckErr → Type 0 where
  no_int_range : (lo hi first : ℤ) (clamp : Bool)
      → (InRange lo hi first → ⊥)
      → BreaksCell s at (cell.Int lo hi first clamp) (broken.Range at)
  no_nums_range : (lo hi : ℤ) (clamp : Bool)
      → (lo ≤ℤ hi → ⊥)
      → BreaksCell s at (cell.Nums lo hi clamp) (broken.Range at)
  in_parts : (parts : List Part) (f : CheckErr)
      → BreaksParts s parts f
      → BreaksCell s at (cell.Hold parts) f
  in_enum : (of first : Name) (f : CheckErr)
      → BreaksKind s (ref.Named of) f
      → BreaksCell s at (cell.Enum of first) f
  in_label : (of first : Name) (enum : ℕ) (f : CheckErr)
      → Stands s of (meaning.Enum enum)
      → BreaksLiteral s (kind.Label enum) (literal.Named first) f
      → BreaksCell s at (cell.Enum of first) f

pub data BreaksState (s : Scope) (n : ℕ) : StateDecl → CheckErr → Type 0 where
  state_taken : (d : StateDecl) (m : Meaning)
      → Stands s d.name m
      → BreaksState s n d (broken.Twice d.name.at)
  in_cell : (d : StateDecl) (f : CheckErr)
      → IsFree s d.name
      → BreaksCell (unfinished s d.name) d.name.at d.cell f
      → BreaksState s n d f

-- A parameter's name is taken by any name of the script, or by an earlier parameter.
pub data BreaksParam (names : List (List ℕ)) (s params : Scope) (n : ℕ)
    : Param → CheckErr → Type 0 where
  name_of_script : (d : Param)
      → Contains names d.name.text
      → BreaksParam names s params n d (broken.Twice d.name.at)
  param_taken : (d : Param) (m : Meaning)
      → Stands params d.name m
      → BreaksParam names s params n d (broken.Twice d.name.at)
  in_param_kind : (d : Param) (f : CheckErr)
      → (Contains names d.name.text → ⊥)
      → IsFree params d.name
      → BreaksKind s d.kind f
      → BreaksParam names s params n d f

pub data BreaksTest (names : List (List ℕ)) (s : Scope) (n : ℕ) : TestTree → CheckErr → Type 0 where
  test_taken : (d : TestTree) (m : Meaning)
      → Stands s d.name m
      → BreaksTest names s n d (broken.Twice d.name.at)
  in_params : (d : TestTree) (f : CheckErr)
      → IsFree s d.name
      → FirstBroken (IsParamDecl names (unfinished s d.name))
      (BreaksParam names (unfinished s d.name)) [] 0 d.params f
      → BreaksTest names s n d f
  in_body : (d : TestTree) (ks : List KindPlan) (params : Scope) (f : CheckErr)
      → IsFree s d.name
      → Each (IsParamDecl names (unfinished s d.name)) [] 0 d.params ks params
      → Breaks (in_tests s ++ params) d.body f
      → BreaksTest names s n d f
  no_condition : (d : TestTree) (ks : List KindPlan) (params : Scope) (t : Typed)
      → IsFree s d.name
      → Each (IsParamDecl names (unfinished s d.name)) [] 0 d.params ks params
      → Means (in_tests s ++ params) d.body t
      → ((c : CondPlan) → IsCondition (in_tests s ++ params) d.body c → ⊥)
      → BreaksTest names s n d (broken.Kind (place d.body))
