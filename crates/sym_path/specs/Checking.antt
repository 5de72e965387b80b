-- What fits a script, case by case.
use Rattle.std.specs.Prelude.{◌≡◌, ℕ, ◌<◌, ◌++◌, List}
use Rattle.std.specs.List.{All}
use Rattle.sym_base.specs.declared.values.value.Value.{Value}
use Rattle.sym_check.specs.declared.plan.script.EnumPlan.{EnumPlan}
use Rattle.sym_check.specs.declared.plan.script.KindPlan.{KindPlan}
use Rattle.sym_check.specs.declared.plan.script.CellPlan.{CellPlan}
use Rattle.sym_check.specs.declared.plan.script.CellPlan.TheVariants as plan
use Rattle.sym_check.specs.Plan.CellKinds.{IsHoldCell, IsEnumCell}
use Rattle.sym_check.specs.Plan.ScriptPlans.{ScriptPlan}
use Rattle.sym_check.specs.Meaning.Validity.{label_count, AreOfKinds}
use Rattle.sym_enum.specs.declared.form.EnumForm.{EnumForm}
use Rattle.sym_enum.specs.declared.form.EnumForm.TheVariants as label
use Rattle.sym_pred.specs.Facts.{FactMap}
use Rattle.sym_pred.specs.Literals.{literals}
use Rattle.sym_pred.specs.declared.form.HoldForm.{HoldForm}
use Rattle.sym_pred.specs.declared.form.HoldForm.TheVariants as hold
use Rattle.sym_path.specs.declared.part.Part.{Part}
use Rattle.sym_path.specs.declared.form.Form.{Form}
use Rattle.sym_path.specs.Kinds.{IsSetPart, IsSpanPart, IsFactsPart, IsFreePart, IsEnumForm, IsIntForm, IsHoldForm, IsNumsForm, IsWordsForm}
use Rattle.sym_path.specs.Fitting.{FitsEnum, FitsRange, Suits, NumberFits}

-- The first parameters are of these kinds, and the others of the values' kinds.
pub record AreParameters (enums : List EnumPlan) (kinds params : List KindPlan)
    (values : List Value) : Type 0 where
  pub others : List KindPlan
  pub is : params ≡ kinds ++ others
  pub args : AreOfKinds enums others values

-- What `PartFits` says of a cell and its part.
abbrev pub FitsPart : ScriptPlan → CellPlan → Part → Type 0
FitsPart p (plan.Enum of first) now = IsSetPart (FitsEnum (label_count p.enums of)) now
FitsPart p (plan.Int lo hi first clamp) now = IsSpanPart (FitsRange lo hi) now
FitsPart p (plan.Hold kinds first) now =
    IsFactsPart (λ (known : FactMap). All (Suits p kinds) (literals known)) now
FitsPart p (plan.Nums lo hi clamp) now = IsFreePart (Unit {0}) now
FitsPart p plan.Words now = IsFreePart (Unit {0}) now

-- A label form fits an enum: its constant is a label of the enum, or it copies a cell of the same
-- enum.
abbrev pub FitsLabelForm : ScriptPlan → ℕ → EnumForm → Type 0
FitsLabelForm p of (label.Const l) = l < label_count p.enums of
FitsLabelForm p of (label.Copy c) = IsEnumCell p.cells c of

-- A hold form fits the kinds of a cell's parts: its constants are of these kinds, or it copies a
-- hold cell with the same kinds.
abbrev pub FitsHoldForm : ScriptPlan → List KindPlan → HoldForm → Type 0
FitsHoldForm p kinds (hold.Const parts) = AreOfKinds p.enums kinds parts
FitsHoldForm p kinds (hold.Copy c) = IsHoldCell p.cells c kinds

-- What `FormFits` says of a cell and its form.
abbrev pub FitsForm : ScriptPlan → List Part → CellPlan → Form → Type 0
FitsForm p when (plan.Enum of first) f = IsEnumForm (FitsLabelForm p of) f
FitsForm p when (plan.Int lo hi first clamp) f = IsIntForm (NumberFits lo hi when) f
FitsForm p when (plan.Hold kinds first) f = IsHoldForm (FitsHoldForm p kinds) f
FitsForm p when (plan.Nums lo hi clamp) f = IsNumsForm (All (NumberFits lo hi when)) f
FitsForm p when plan.Words f = IsWordsForm (λ (added : List (List ℕ)). Unit {0}) f
