-- Declarations of a script, and their plan: one case for each rule.
use Rattle.std.specs.Prelude.{◌≡◌, ℕ, ℤ, ◌≤ℤ◌, Bool, List, [], ◌∷◌, ◌++◌, Option, Some, None}
use Rattle.std.specs.List.{Contains}
use Rattle.std.specs.Option.{unwrap_or}
use Rattle.sym_base.specs.declared.tree.name.Name.{Name}
use Rattle.sym_base.specs.declared.tree.declaration.EnumDecl.{EnumDecl}
use Rattle.sym_base.specs.declared.tree.declaration.FieldDecl.{FieldDecl}
use Rattle.sym_base.specs.declared.tree.declaration.KindRef.{KindRef}
use Rattle.sym_base.specs.declared.tree.declaration.KindRef.TheVariants as ref
use Rattle.sym_base.specs.declared.tree.declaration.Literal.{Literal}
use Rattle.sym_base.specs.declared.tree.declaration.Literal.TheVariants as literal
use Rattle.sym_base.specs.declared.tree.declaration.Part.{Part}
use Rattle.sym_base.specs.declared.tree.declaration.CellDecl.{CellDecl}
use Rattle.sym_base.specs.declared.tree.declaration.CellDecl.TheVariants as cell
use Rattle.sym_base.specs.declared.tree.declaration.StateDecl.{StateDecl}
use Rattle.sym_base.specs.declared.tree.declaration.Param.{Param}
use Rattle.sym_base.specs.declared.values.value.Value.{Value}
use Rattle.sym_base.specs.declared.values.value.Value.TheVariants as value
use Rattle.sym_base.specs.Trees.{TestTree}
use Rattle.sym_check.specs.declared.plan.script.EnumPlan.{EnumPlan}
use Rattle.sym_check.specs.declared.plan.script.KindPlan.{KindPlan}
use Rattle.sym_check.specs.declared.plan.script.KindPlan.TheVariants as kind
use Rattle.sym_check.specs.declared.plan.script.FieldPlan.{FieldPlan}
use Rattle.sym_check.specs.declared.plan.script.CellPlan.{CellPlan}
use Rattle.sym_check.specs.declared.plan.script.CellPlan.TheVariants as plan
use Rattle.sym_check.specs.Plan.CondPlans.{CondPlan}
use Rattle.sym_check.specs.Plan.ScriptPlans.{TestOf}
use Rattle.sym_check.specs.declared.elaborate.scope.Variable.TheVariants as var
use Rattle.sym_check.specs.declared.elaborate.scope.Meaning.{Meaning}
use Rattle.sym_check.specs.Rules.Scopes.{Scope, entry, Stands, IsFree, in_tests}
use Rattle.sym_check.specs.declared.elaborate.scope.Meaning.TheVariants as meaning
use Rattle.sym_check.specs.Rules.Typing.{IsCondition}
use Rattle.sym_check.specs.Plan.Ranges.{InRange}
use Rattle.sym_check.specs.Rules.InOrder.{Each}

-- The scope after a name in its own declaration.
abbrev pub unfinished : Scope → Name → Scope
unfinished s x = s ++ entry x meaning.Unfinished ∷ []

-- The kind that is written.
pub data IsKindOf (s : Scope) : KindRef → KindPlan → Type 0 where
  num_kind : IsKindOf s ref.Num kind.Num
  word_kind : IsKindOf s ref.Word kind.Word
  label_kind : (x : Name) (enum : ℕ)
      → Stands s x (meaning.Enum enum)
      → IsKindOf s (ref.Named x) (kind.Label enum)

-- A literal of the kind.
pub data IsLiteral (s : Scope) : KindPlan → Literal → Value → Type 0 where
  num_literal : (n : ℤ) (at : ℕ) → IsLiteral s kind.Num (literal.Num n at) (value.Num n)
  text_literal : (t : List ℕ) (at : ℕ) → IsLiteral s kind.Word (literal.Text t at) (value.Word t)
  label_literal : (x : Name) (enum l : ℕ)
      → Stands s x (meaning.Label enum l)
      → IsLiteral s (kind.Label enum) (literal.Named x) (value.Label l)

-- The value of an empty text, where one is given.
pub data IsDefault (s : Scope) (k : KindPlan) : Option Literal → Option Value → Type 0 where
  no_default : IsDefault s k None None
  default : (l : Literal) (v : Value) → IsLiteral s k l v → IsDefault s k (Some l) (Some v)

pub data IsLabelDecl (enum : ℕ) : Scope → ℕ → Name → List ℕ → Scope → Type 0 where
  label : (s : Scope) (n : ℕ) (x : Name)
      → IsFree s x
      → IsLabelDecl enum s n x x.text (s ++ entry x (meaning.Label enum n) ∷ [])

pub data IsEnumDecl : Scope → ℕ → EnumDecl → EnumPlan → Scope → Type 0 where
  enum : (s later : Scope) (n : ℕ) (d : EnumDecl) (labels : List (List ℕ))
      → IsFree s d.name
      → Each (IsLabelDecl n) (s ++ entry d.name (meaning.Enum n) ∷ []) 0 d.labels labels later
      → IsEnumDecl s n d (record { labels = labels }) later

-- A field's text in a header is the one that is given, or its name.
pub data IsFieldDecl : Scope → ℕ → FieldDecl → FieldPlan → Scope → Type 0 where
  field : (s : Scope) (n : ℕ) (d : FieldDecl) (k : KindPlan) (empty : Option Value)
      → IsFree s d.name
      → IsKindOf (unfinished s d.name) d.kind k
      → IsDefault (unfinished s d.name) k d.default empty
      → IsFieldDecl s n d
      (record { header = unwrap_or d.header d.name.text; kind = k; default = empty })
      (s ++ entry d.name (meaning.Value k (var.Field n)) ∷ [])

-- A name of the group line is that of a field, and no earlier name of the line; these are the scope
-- that grows.
pub data IsGroupField (s : Scope) : Scope → ℕ → Name → ℕ → Scope → Type 0 where
  group_field : (named : Scope) (i n : ℕ) (x : Name) (k : KindPlan)
      → IsFree named x
      → Stands s x (meaning.Value k (var.Field n))
      → IsGroupField s named i x n (unfinished named x)

-- The names of the group line, and the fields' numbers in the line's order; none without a line.
pub record IsGroup (s : Scope) (group : List Name) (fields : List ℕ) : Type 0 where
  pub named : Scope
  pub each : Each (IsGroupField s) [] 0 group fields named

-- Parts with their kinds and first values.
pub data AreParts (s : Scope) : List Part → List KindPlan → List Value → Type 0 where
  no_parts : AreParts s [] [] []
  more_parts : (d : Part) (rest : List Part) (k : KindPlan) (ks : List KindPlan)
      (v : Value) (vs : List Value)
      → IsKindOf s d.kind k
      → IsLiteral s k d.first v
      → AreParts s rest ks vs
      → AreParts s (d ∷ rest) (k ∷ ks) (v ∷ vs)

-- What a cell holds, and what its name stands for, by its number.
pub data IsCellDecl (s : Scope) (n : ℕ) : CellDecl → CellPlan → Meaning → Type 0 where
  int : (lo hi first : ℤ) (clamp : Bool)
      → InRange lo hi first
      → IsCellDecl s n (cell.Int lo hi first clamp) (plan.Int lo hi first clamp)
      (meaning.IntCell n)
  nums : (lo hi : ℤ) (clamp : Bool)
      → lo ≤ℤ hi
      → IsCellDecl s n (cell.Nums lo hi clamp) (plan.Nums lo hi clamp) (meaning.NumsCell n)
  words : IsCellDecl s n cell.Words plan.Words (meaning.WordsCell n)
  hold : (parts : List Part) (ks : List KindPlan) (vs : List Value)
      → AreParts s parts ks vs
      → IsCellDecl s n (cell.Hold parts) (plan.Hold ks vs) (meaning.HoldCell n ks)
  enum_cell : (of first : Name) (enum l : ℕ)
      → Stands s of (meaning.Enum enum)
      → Stands s first (meaning.Label enum l)
      → IsCellDecl s n (cell.Enum of first) (plan.Enum enum l) (meaning.EnumCell n enum)

pub data IsStateDecl : Scope → ℕ → StateDecl → CellPlan → Scope → Type 0 where
  state : (s : Scope) (n : ℕ) (d : StateDecl) (p : CellPlan) (m : Meaning)
      → IsFree s d.name
      → IsCellDecl (unfinished s d.name) n d.cell p m
      → IsStateDecl s n d p (s ++ entry d.name m ∷ [])

-- A parameter has a name of its own among all of the script, and among the test's parameters so
-- far, which are its scope.
pub data IsParamDecl (names : List (List ℕ)) (s : Scope)
    : Scope → ℕ → Param → KindPlan → Scope → Type 0 where
  param : (params : Scope) (n : ℕ) (d : Param) (k : KindPlan)
      → (Contains names d.name.text → ⊥)
      → IsFree params d.name
      → IsKindOf s d.kind k
      → IsParamDecl names s params n d k
      (params ++ entry d.name (meaning.Value k (var.Param n)) ∷ [])

-- In the body of a test its parameters and the labels are visible.
pub data IsTestDecl (names : List (List ℕ)) : Scope → ℕ → TestTree → TestOf → Scope → Type 0 where
  test : (s params : Scope) (n : ℕ) (d : TestTree) (ks : List KindPlan) (c : CondPlan)
      → IsFree s d.name
      → Each (IsParamDecl names (unfinished s d.name)) [] 0 d.params ks params
      → IsCondition (in_tests s ++ params) d.body c
      → IsTestDecl names s n d
      (record { params = ks; body = c })
      (s ++ entry d.name (meaning.Test n ks) ∷ [])
