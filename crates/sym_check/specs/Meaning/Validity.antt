-- Values and records that are of a script's kinds, and states that are valid.
use Rattle.std.specs.Prelude.{ℕ, ℤ, ◌<◌, Bool, List, [], length, map, Option, Some, None, slice_get, IfSome}
use Rattle.std.specs.List.{All, AllZip}
use Rattle.sym_base.specs.declared.values.value.Value.{Value}
use Rattle.sym_base.specs.declared.values.value.Value.TheVariants as value
use Rattle.sym_base.specs.declared.values.value.Key.{Key}
use Rattle.sym_base.specs.declared.values.record.Record.{Record}
use Rattle.sym_base.specs.declared.values.state.Cell.{Cell}
use Rattle.sym_base.specs.declared.values.state.Cell.TheVariants as cell
use Rattle.sym_base.specs.declared.values.state.State.{State}
use Rattle.sym_base.specs.declared.values.state.Outcome.{Outcome}
use Rattle.sym_base.specs.declared.values.state.Outcome.TheVariants.{Going, Ended}
use Rattle.sym_base.specs.Limits.{IsNumber}
use Rattle.sym_check.specs.declared.plan.script.EnumPlan.{EnumPlan}
use Rattle.sym_check.specs.declared.plan.script.KindPlan.{KindPlan}
use Rattle.sym_check.specs.declared.plan.script.KindPlan.TheVariants as kind
use Rattle.sym_check.specs.declared.plan.script.FieldPlan.{FieldPlan}
use Rattle.sym_check.specs.declared.plan.script.CellPlan.{CellPlan}
use Rattle.sym_check.specs.declared.plan.script.CellPlan.TheVariants as plan
use Rattle.sym_check.specs.Plan.ScriptPlans.{ScriptPlan}
use Rattle.sym_check.specs.Plan.Ranges.{InRange}

abbrev pub labels_of : Option EnumPlan → List (List ℕ)
labels_of None = []
labels_of (Some enum) = enum.labels

-- The names of an enum's labels, by its number.
abbrev pub enum_labels : List EnumPlan → ℕ → List (List ℕ)
enum_labels enums enum = labels_of (slice_get enums enum)

abbrev pub labels_in : Option EnumPlan → ℕ
labels_in None = 0
labels_in (Some enum) = length enum.labels

-- How many labels an enum has, by its number.
abbrev pub label_count : List EnumPlan → ℕ → ℕ
label_count enums enum = labels_in (slice_get enums enum)

-- A value is of a kind: a number of a script, a word, or a label of the enum.
abbrev pub IsOfKind : List EnumPlan → KindPlan → Value → Type 0
IsOfKind enums kind.Num (value.Num x) = IsNumber x
IsOfKind enums kind.Num (value.Word t) = ⊥
IsOfKind enums kind.Num (value.Label l) = ⊥
IsOfKind enums kind.Word (value.Num x) = ⊥
IsOfKind enums kind.Word (value.Word t) = Unit {0}
IsOfKind enums kind.Word (value.Label l) = ⊥
IsOfKind enums (kind.Label enum) (value.Num x) = ⊥
IsOfKind enums (kind.Label enum) (value.Word t) = ⊥
IsOfKind enums (kind.Label enum) (value.Label l) = l < label_count enums enum

-- Values of these kinds, one of each, in order.
abbrev pub AreOfKinds : List EnumPlan → List KindPlan → List Value → Type 0
AreOfKinds enums kinds values = AllZip (IsOfKind enums) kinds values

abbrev pub field_kinds : ScriptPlan → List KindPlan
field_kinds p = map (λ (f : FieldPlan). f.kind) p.fields

-- The record has one value for each field, of the field's kind.
abbrev pub IsRecord : ScriptPlan → Record → Type 0
IsRecord p rec = AreOfKinds p.enums (field_kinds p) rec.fields

-- A value of the field with this number, of the field's kind.
abbrev pub IsOfField : ScriptPlan → ℕ → Value → Type 0
IsOfField p field v = IfSome (slice_get (field_kinds p) field) (λ k. IsOfKind p.enums k v)

-- The key of a group has one value for each field that the group line names, in the line's order.
abbrev pub IsKey : ScriptPlan → Key → Type 0
IsKey p key = AllZip (IsOfField p) p.group key.values

-- A cell holds what it may: a number or numbers in its range, words, parts of its kinds, or a label
-- of its enum.
pub data IsValidCell (enums : List EnumPlan) : CellPlan → Cell → Type 0 where
  int : (lo hi first : ℤ) (clamp : Bool) (x : ℤ)
      → InRange lo hi x
      → IsValidCell enums (plan.Int lo hi first clamp) (cell.Int x)
  nums : (lo hi : ℤ) (clamp : Bool) (xs : List ℤ)
      → All (InRange lo hi) xs
      → IsValidCell enums (plan.Nums lo hi clamp) (cell.Nums xs)
  words : (ts : List (List ℕ)) → IsValidCell enums plan.Words (cell.Words ts)
  hold : (kinds : List KindPlan) (first parts : List Value)
      → AreOfKinds enums kinds parts
      → IsValidCell enums (plan.Hold kinds first) (cell.Hold parts)
  enum : (of first l : ℕ)
      → l < label_count enums of
      → IsValidCell enums (plan.Enum of first) (cell.Enum l)

-- The state has one cell for each that the script declares, and each holds what it may.
abbrev pub IsValid : ScriptPlan → State → Type 0
IsValid p s = AllZip (IsValidCell p.enums) p.cells s.cells

-- A group that goes on does so with a valid state.
abbrev pub IsValidOutcome : ScriptPlan → Outcome → Type 0
IsValidOutcome p (Going s) = IsValid p s
IsValidOutcome p (Ended fault) = Unit {0}
