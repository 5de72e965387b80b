-- Paths that fit a script.
use Rattle.std.specs.Prelude.{◌≡◌, ℕ, ℤ, ◌++◌, ◌<◌, ◌≤ℤ◌, Bool, IsTrue, List, Option, Some, None, slice_get}
use Rattle.std.specs.List.{All, AllZip}
use Rattle.sym_base.specs.declared.values.value.Value.{Value}
use Rattle.sym_check.specs.declared.plan.script.KindPlan.{KindPlan}
use Rattle.sym_check.specs.declared.plan.script.CellPlan.{CellPlan}
use Rattle.sym_check.specs.declared.plan.script.CellPlan.TheVariants as plan
use Rattle.sym_check.specs.Plan.CellKinds.{IsHoldCell, IsEnumCell}
use Rattle.sym_check.specs.Meaning.Fitting.{FitsFault}
use Rattle.sym_check.specs.Plan.ScriptPlans.{ScriptPlan, TestOf}
use Rattle.sym_check.specs.Plan.Ranges.{InRange}
use Rattle.sym_check.specs.Meaning.Validity.{label_count, AreOfKinds}
use Rattle.sym_enum.specs.Labels.{has_label}
use Rattle.sym_enum.specs.declared.form.EnumForm.TheVariants as label
use Rattle.sym_enum.specs.declared.label_set.LabelSet.{LabelSet}
use Rattle.sym_int.specs.Lines.{form_on}
use Rattle.sym_int.specs.Points.{HasPoint}
use Rattle.sym_int.specs.declared.form.IntForm.{IntForm}
use Rattle.sym_int.specs.declared.form.IntForm.TheVariants as number
use Rattle.sym_int.specs.declared.span.Span.{Span}
use Rattle.sym_pred.specs.Facts.{FactMap}
use Rattle.sym_pred.specs.Literals.{literals}
use Rattle.sym_pred.specs.declared.form.HoldForm.TheVariants as hold
use Rattle.sym_pred.specs.declared.literal.Literal.{Literal}
use Rattle.sym_path.specs.declared.part.Part.{Part}
use Rattle.sym_path.specs.declared.part.Part.TheVariants as part
use Rattle.sym_path.specs.declared.form.Form.{Form}
use Rattle.sym_path.specs.declared.form.Form.TheVariants as form
use Rattle.sym_path.specs.declared.path.PathEnd.{PathEnd}
use Rattle.sym_path.specs.declared.path.PathEnd.TheVariants.{Next, Ended}
use Rattle.sym_path.specs.declared.path.Path.{Path}
use Rattle.sym_path.specs.Taking.{IsTakenOn}

-- The set has a label, and only labels of an enum of so many.
pub record FitsEnum (count : ℕ) (set : LabelSet) : Type 0 where
  pub some : (l : ℕ) × IsTrue (has_label set l)
  pub within : (l : ℕ) → IsTrue (has_label set l) → l < count

-- The span lies in a range.
abbrev pub FitsRange : ℤ → ℤ → Span → Type 0
FitsRange lo hi span = (lo ≤ℤ span.lo) × (span.hi ≤ℤ hi)

-- A literal suits a hold cell: its test takes the kinds of the cell's parts and then those of its
-- arguments.
pub record Suits (p : ScriptPlan) (kinds : List KindPlan) (literal : Literal) : Type 0 where
  pub called : TestOf
  pub is_test : slice_get p.tests literal.test ≡ Some called
  pub others : List KindPlan
  pub params : called.params ≡ kinds ++ others
  pub args : AreOfKinds p.enums others literal.args

-- A part is of its cell's kind, and within what the cell may hold.
pub data PartFits (p : ScriptPlan) : CellPlan → Part → Type 0 where
  labels : (of first : ℕ) (set : LabelSet)
      → FitsEnum (label_count p.enums of) set
      → PartFits p (plan.Enum of first) (part.Set set)
  numbers : (lo hi first : ℤ) {clamp : Bool} (span : Span)
      → FitsRange lo hi span
      → PartFits p (plan.Int lo hi first clamp) (part.Span span)
  parts : (kinds : List KindPlan) (first : List Value) (known : FactMap)
      → All (Suits p kinds) (literals known)
      → PartFits p (plan.Hold kinds first) (part.Facts known)
  free_nums : (lo hi : ℤ) {clamp : Bool} → PartFits p (plan.Nums lo hi clamp) part.Free
  free_words : PartFits p plan.Words part.Free

-- A number that depends on a cell lies in a range at every point of the cell's span.
abbrev pub StaysWithin : ℤ → ℤ → (ℤ → ℤ) → Option Part → Type 0
StaysWithin lo hi number None = ⊥
StaysWithin lo hi number (Some (part.Set set)) = ⊥
StaysWithin lo hi number (Some (part.Span span)) =
    (x : ℤ) → HasPoint span x → InRange lo hi (number x)
StaysWithin lo hi number (Some (part.Facts known)) = ⊥
StaysWithin lo hi number (Some part.Free) = ⊥

-- A constant in the range, or a line over an integer cell that lies in it.
abbrev pub NumberFits : ℤ → ℤ → List Part → IntForm → Type 0
NumberFits lo hi when (number.Const n) = InRange lo hi n.value
NumberFits lo hi when (number.Line line) =
    StaysWithin lo hi (form_on (number.Line line)) (slice_get when line.cell)

-- A form is of its cell's kind. A constant is a value of that kind, a copied cell has the same enum
-- or the same kinds of parts, and numbers lie in the cell's range.
pub data FormFits (p : ScriptPlan) (when : List Part) : CellPlan → Form → Type 0 where
  of_label : (of first l : ℕ)
      → l < label_count p.enums of
      → FormFits p when (plan.Enum of first) (form.Enum (label.Const l))
  copied_label : (of first c : ℕ)
      → IsEnumCell p.cells c of
      → FormFits p when (plan.Enum of first) (form.Enum (label.Copy c))
  of_number : (lo hi first : ℤ) {clamp : Bool} (f : IntForm)
      → NumberFits lo hi when f
      → FormFits p when (plan.Int lo hi first clamp) (form.Int f)
  of_parts : (kinds : List KindPlan) (first parts : List Value)
      → AreOfKinds p.enums kinds parts
      → FormFits p when (plan.Hold kinds first) (form.Hold (hold.Const parts))
  copied_parts : (kinds : List KindPlan) (first : List Value) (c : ℕ)
      → IsHoldCell p.cells c kinds
      → FormFits p when (plan.Hold kinds first) (form.Hold (hold.Copy c))
  of_numbers : (lo hi : ℤ) {clamp : Bool} (added : List IntForm)
      → All (NumberFits lo hi when) added
      → FormFits p when (plan.Nums lo hi clamp) (form.Nums added)
  of_words : (added : List (List ℕ)) → FormFits p when plan.Words (form.Words added)

-- One form for each cell, taken on the constraint.
pub record FormsFit (p : ScriptPlan) (when : List Part) (forms : List Form) : Type 0 where
  pub each : AllZip (FormFits p when) p.cells forms
  pub taken : All (IsTakenOn when) forms

-- A fault by a number names a cell that has a range.
abbrev pub EndFits : ScriptPlan → List Part → PathEnd → Type 0
EndFits p when (Next forms) = FormsFit p when forms
EndFits p when (Ended fault) = FitsFault p fault.kind

-- A path fits a script: one part and, where it goes on, one form for each cell.
pub record PathFits (p : ScriptPlan) (path : Path) : Type 0 where
  pub parts : AllZip (PartFits p) p.cells path.when
  pub end : EndFits p path.when path.end

-- A segment fits a script: each of its paths fits it.
abbrev pub SegmentFits : ScriptPlan → List Path → Type 0
SegmentFits p paths = All (PathFits p) paths
