-- Plans whose numbers name what their places need: each field, local, parameter, cell, part, label
-- and test is there and of the kind wanted, and the numbers that stand in them are those of a
-- script.
use Rattle.std.specs.Prelude.{◌≡◌, ℕ, ℤ, ◌-◌, ◌<◌, ◌≤◌, ◌≤ℤ◌, List, [], ◌∷◌, ◌++◌, replicate, length, Some, slice_get, IfSome}
use Rattle.std.specs.List.{All, AllZip}
use Rattle.sym_base.specs.Limits.{IsNumber, max_labels, max_group_fields, max_cells}
use Rattle.sym_check.specs.declared.plan.expression.WordOf.{WordOf}
use Rattle.sym_check.specs.declared.plan.expression.WordOf.TheVariants as word
use Rattle.sym_check.specs.declared.plan.expression.LabelOf.{LabelOf}
use Rattle.sym_check.specs.declared.plan.expression.LabelOf.TheVariants as label
use Rattle.sym_check.specs.declared.plan.script.EnumPlan.{EnumPlan}
use Rattle.sym_check.specs.declared.plan.script.KindPlan.{KindPlan}
use Rattle.sym_check.specs.declared.plan.script.KindPlan.TheVariants as kind
use Rattle.sym_check.specs.declared.plan.script.FieldPlan.{FieldPlan}
use Rattle.sym_check.specs.declared.plan.script.CellPlan.{CellPlan}
use Rattle.sym_check.specs.declared.plan.script.CellPlan.TheVariants as plan
use Rattle.sym_check.specs.Plan.FixedPlans.{NumPlan, FixedPlan, OfWord, OfLabel}
use Rattle.sym_check.specs.Plan.FixedPlans as fixed
use Rattle.sym_check.specs.Meaning.FixedValues.{Environment}
use Rattle.sym_check.specs.Plan.LinePlans.{LinePlan, TermPlan}
use Rattle.sym_check.specs.Plan.LinePlans as line
use Rattle.sym_check.specs.Plan.CondPlans.{CondPlan, Compared, Words, CellIs, LabelIs, Test, Not, And, Or}
use Rattle.sym_check.specs.Plan.DoPlans.{DoPlan, Let, SetInt, SetEnum, CopyEnum, Keep, KeepFrom, PushNum, PushWord, If, DosPlan, End, Then}
use Rattle.sym_check.specs.Plan.ScriptPlans.{ScriptPlan, TestOf}
use Rattle.sym_check.specs.Plan.CellKinds.{IsIntCell, IsNumsCell, IsWordsCell, IsHoldCell, IsEnumCell}
use Rattle.sym_check.specs.Meaning.Columns.{IsColumnOf}
use Rattle.sym_check.specs.Plan.Ranges.{InRange}
use Rattle.sym_check.specs.Meaning.Validity.{label_count, IsOfKind, AreOfKinds, field_kinds}

-- The kinds of what an expression may name.
pub record Kinds : Type 0 where
  pub fields : List KindPlan
  pub locals : List KindPlan
  pub params : List KindPlan

-- What is known is of these kinds.
pub record IsKnown (enums : List EnumPlan) (k : Kinds) (v : Environment) : Type 0 where
  pub fields : AreOfKinds enums k.fields v.fields
  pub locals : AreOfKinds enums k.locals v.locals
  pub params : AreOfKinds enums k.params v.params

abbrev pub IsNum : Kinds → NumPlan → Type 0
IsNum k (fixed.Lit n) = IsNumber n
IsNum k (fixed.Field i) = slice_get k.fields i ≡ Some kind.Num
IsNum k (fixed.Local i) = slice_get k.locals i ≡ Some kind.Num
IsNum k (fixed.Param i) = slice_get k.params i ≡ Some kind.Num
IsNum k (fixed.Neg n) = IsNum k n
IsNum k (fixed.Bin op l r) = IsNum k l × IsNum k r

abbrev pub IsWord : Kinds → WordOf → Type 0
IsWord k (word.Lit t) = Unit {0}
IsWord k (word.Field i) = slice_get k.fields i ≡ Some kind.Word
IsWord k (word.Local i) = slice_get k.locals i ≡ Some kind.Word
IsWord k (word.Param i) = slice_get k.params i ≡ Some kind.Word

-- A label of the enum with this number.
abbrev pub IsLabel : List EnumPlan → Kinds → ℕ → LabelOf → Type 0
IsLabel enums k enum (label.Lit l) = l < label_count enums enum
IsLabel enums k enum (label.Field i) = slice_get k.fields i ≡ Some (kind.Label enum)
IsLabel enums k enum (label.Local i) = slice_get k.locals i ≡ Some (kind.Label enum)
IsLabel enums k enum (label.Param i) = slice_get k.params i ≡ Some (kind.Label enum)

-- An expression of this kind.
pub data IsFixed (enums : List EnumPlan) (k : Kinds) : KindPlan → FixedPlan → Type 0 where
  of_num : (n : NumPlan) → IsNum k n → IsFixed enums k kind.Num (fixed.OfNum n)
  of_word : (w : WordOf) → IsWord k w → IsFixed enums k kind.Word (OfWord w)
  of_label : (enum : ℕ) (l : LabelOf)
      → IsLabel enums k enum l
      → IsFixed enums k (kind.Label enum) (OfLabel l)

abbrev pub IsLine : List CellPlan → Kinds → LinePlan → Type 0
IsLine cells k (line.Cell c) = IsIntCell cells c
IsLine cells k (line.Neg l) = IsLine cells k l
IsLine cells k (line.Add l n) = IsLine cells k l × IsNum k n
IsLine cells k (line.Scale n l) = IsNum k n × IsLine cells k l

abbrev pub IsTerm : List CellPlan → Kinds → TermPlan → Type 0
IsTerm cells k (line.OfNum n) = IsNum k n
IsTerm cells k (line.OfLine l) = IsLine cells k l

-- The first parameters of a test are of the parts' kinds, the others of the arguments'.
pub record IsCalled (p : ScriptPlan) (k : Kinds) (test cell : ℕ) (args : List FixedPlan)
    : Type 0 where
  pub called : TestOf
  pub is_test : slice_get p.tests test ≡ Some called
  pub parts : List KindPlan
  pub is_hold : IsHoldCell p.cells cell parts
  pub others : List KindPlan
  pub params : called.params ≡ parts ++ others
  pub arguments : AllZip (IsFixed p.enums k) others args

-- Two labels are compared only where they are of one enum.
pub record AreLabels (enums : List EnumPlan) (k : Kinds) (l m : LabelOf) : Type 0 where
  pub enum : ℕ
  pub left : IsLabel enums k enum l
  pub right : IsLabel enums k enum m

pub record IsLabelOfCell (p : ScriptPlan) (k : Kinds) (c : ℕ) (l : LabelOf) : Type 0 where
  pub enum : ℕ
  pub of_cell : IsEnumCell p.cells c enum
  pub is_label : IsLabel p.enums k enum l

abbrev pub IsCond : ScriptPlan → Kinds → CondPlan → Type 0
IsCond p k (Compared compare t n) = IsTerm p.cells k t × IsNum k n
IsCond p k (Words v w) = IsWord k v × IsWord k w
IsCond p k (CellIs c l) = IsLabelOfCell p k c l
IsCond p k (LabelIs l m) = AreLabels p.enums k l m
IsCond p k (Test test c args) = IsCalled p k test c args
IsCond p k (Not c) = IsCond p k c
IsCond p k (And c d) = IsCond p k c × IsCond p k d
IsCond p k (Or c d) = IsCond p k c × IsCond p k d

-- The two enum cells are of one enum.
pub record AreOfOneEnum (cells : List CellPlan) (c d : ℕ) : Type 0 where
  pub enum : ℕ
  pub to : IsEnumCell cells c enum
  pub from : IsEnumCell cells d enum

-- The two hold cells have the same part kinds.
pub record HaveSameKinds (cells : List CellPlan) (c d : ℕ) : Type 0 where
  pub parts : List KindPlan
  pub to : IsHoldCell cells c parts
  pub from : IsHoldCell cells d parts

-- One value for each part, of its kind.
pub record IsKept (p : ScriptPlan) (k : Kinds) (c : ℕ) (values : List FixedPlan) : Type 0 where
  pub parts : List KindPlan
  pub is_hold : IsHoldCell p.cells c parts
  pub kept : AllZip (IsFixed p.enums k) parts values

-- The kinds with one local more; the gap before it holds numbers.
abbrev pub with_kind : Kinds → ℕ → KindPlan → Kinds
with_kind k n last = record k {
  locals = k.locals ++ (replicate (n - length k.locals) kind.Num ++ last ∷ []);
}

-- Statements with the kinds that are known before them. A local takes the next number or a later
-- one, and is known to the end of its block.
mutual
  pub data IsDo (p : ScriptPlan) : Kinds → DoPlan → Kinds → Type 0 where
    let_value : (k : Kinds) (n : ℕ) (last : KindPlan) (e : FixedPlan)
        → length k.locals ≤ n
        → IsFixed p.enums k last e
        → IsDo p k (Let n e) (with_kind k n last)
    set_int : (k : Kinds) (c : ℕ) (t : TermPlan)
        → IsIntCell p.cells c
        → IsTerm p.cells k t
        → IsDo p k (SetInt c t) k
    set_enum : (k : Kinds) (c : ℕ) (l : LabelOf)
        → IsLabelOfCell p k c l
        → IsDo p k (SetEnum c l) k
    copy_enum : (k : Kinds) (c d : ℕ) → AreOfOneEnum p.cells c d → IsDo p k (CopyEnum c d) k
    keep : (k : Kinds) (c : ℕ) (values : List FixedPlan)
        → IsKept p k c values
        → IsDo p k (Keep c values) k
    keep_from : (k : Kinds) (c d : ℕ) → HaveSameKinds p.cells c d → IsDo p k (KeepFrom c d) k
    push_num : (k : Kinds) (c : ℕ) (t : TermPlan)
        → IsNumsCell p.cells c
        → IsTerm p.cells k t
        → IsDo p k (PushNum c t) k
    push_word : (k : Kinds) (c : ℕ) (w : WordOf)
        → IsWordsCell p.cells c
        → IsWord k w
        → IsDo p k (PushWord c w) k
    branch : (k : Kinds) (c : CondPlan) (a b : DosPlan)
        → IsCond p k c
        → IsDos p k a
        → IsDos p k b
        → IsDo p k (If c a b) k

  pub data IsDos (p : ScriptPlan) : Kinds → DosPlan → Type 0 where
    finished : (k : Kinds) → IsDos p k End
    followed : (k later : Kinds) (d : DoPlan) (rest : DosPlan)
        → IsDo p k d later
        → IsDos p later rest
        → IsDos p k (Then d rest)

-- The kind of a field, a part or a parameter.
abbrev pub IsKind : List EnumPlan → KindPlan → Type 0
IsKind enums kind.Num = Unit {0}
IsKind enums kind.Word = Unit {0}
IsKind enums (kind.Label enum) = enum < length enums

-- The value of an empty text is of the field's kind.
pub record IsField (enums : List EnumPlan) (f : FieldPlan) : Type 0 where
  pub kind : IsKind enums f.kind
  pub empty : IfSome f.default (λ v. IsOfKind enums f.kind v)

-- Ranges are of numbers, with an end that is no less than the beginning; the first content is
-- valid.
abbrev pub IsCell : List EnumPlan → CellPlan → Type 0
IsCell enums (plan.Int lo hi first clamp) = IsNumber lo × IsNumber hi × InRange lo hi first
IsCell enums (plan.Nums lo hi clamp) = IsNumber lo × IsNumber hi × (lo ≤ℤ hi)
IsCell enums plan.Words = Unit {0}
IsCell enums (plan.Hold kinds first) = All (IsKind enums) kinds × AreOfKinds enums kinds first
IsCell enums (plan.Enum enum first) = first < label_count enums enum

abbrev pub parameter_kinds : TestOf → Kinds
parameter_kinds t = record { fields = []; locals = []; params = t.params }

-- A body names its test's parameters alone.
pub record IsTest (p : ScriptPlan) (t : TestOf) : Type 0 where
  pub kinds : All (IsKind p.enums) t.params
  pub body : IsCond (record p { cells = []; tests = [] }) (parameter_kinds t) t.body

abbrev pub known_kinds : ScriptPlan → Kinds
known_kinds p = record { fields = field_kinds p; locals = []; params = [] }

-- An enum has from 1 to 32 labels.
abbrev pub IsEnum : EnumPlan → Type 0
IsEnum e = (1 ≤ length e.labels) × (length e.labels ≤ max_labels)

-- Each part of the plan is so. There are at most 32 cells, and at most 3 fields tell groups apart.
pub record IsWellFormed (p : ScriptPlan) : Type 0 where
  pub enums : All IsEnum p.enums
  pub fields : All (IsField p.enums) p.fields
  pub group_count : length p.group ≤ max_group_fields
  pub group : All (λ g. g < length p.fields) p.group
  pub cell_count : length p.cells ≤ max_cells
  pub cells : All (IsCell p.enums) p.cells
  pub tests : All (IsTest p) p.tests
  pub update : IsDos p (known_kinds p) p.update
  pub columns : All (IsColumnOf p.cells) p.columns
