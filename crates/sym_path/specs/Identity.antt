-- The path that admits every valid state and leaves it as it is.
use Rattle.std.specs.Prelude.{◌≡◌, ℕ, ℤ, pos, ◌<◌, ◌<ℤ◌, ◌↔◌, IsTrue, List, [], Some, length, slice_get}
use Rattle.std.specs.FinMap.{empty}
use Rattle.sym_base.specs.declared.values.state.State.{State}
use Rattle.sym_base.specs.declared.values.state.Outcome.TheVariants.{Going}
use Rattle.sym_base.specs.Tests.{Truth}
use Rattle.sym_check.specs.declared.plan.script.CellPlan.{CellPlan}
use Rattle.sym_check.specs.declared.plan.script.CellPlan.TheVariants as plan
use Rattle.sym_check.specs.Plan.ScriptPlans.{ScriptPlan}
use Rattle.sym_check.specs.Meaning.Validity.{label_count, IsValid}
use Rattle.sym_enum.specs.Labels.{has_label, IsOnlyLabel}
use Rattle.sym_enum.specs.declared.form.EnumForm.{EnumForm}
use Rattle.sym_enum.specs.declared.form.EnumForm.TheVariants as label
use Rattle.sym_enum.specs.declared.label_set.LabelSet.{LabelSet}
use Rattle.sym_int.specs.Lines.{offset}
use Rattle.sym_int.specs.declared.form.IntForm.{IntForm}
use Rattle.sym_int.specs.declared.form.IntForm.TheVariants as number
use Rattle.sym_int.specs.declared.span.Span.{Span}
use Rattle.sym_pred.specs.Facts.{FactMap}
use Rattle.sym_pred.specs.declared.form.HoldForm.{HoldForm}
use Rattle.sym_pred.specs.declared.form.HoldForm.TheVariants as hold
use Rattle.sym_path.specs.declared.part.Part.{Part}
use Rattle.sym_path.specs.declared.form.Form.{Form}
use Rattle.sym_path.specs.Kinds.{IsSetPart, IsSpanPart, IsFactsPart, IsFreePart, IsEnumForm, IsIntForm, IsHoldForm, IsNumsForm, IsWordsForm}
use Rattle.sym_path.specs.declared.path.PathEnd.{PathEnd}
use Rattle.sym_path.specs.declared.path.PathEnd.TheVariants.{Next, Ended}
use Rattle.sym_path.specs.declared.path.Path.{Path}
use Rattle.sym_path.specs.Admitting.{Admits}
use Rattle.sym_path.specs.Giving.{end_at}

-- The label, or the number, of the cell with this number itself: where there is only one, this one.
abbrev pub IsOwnLabel : ℕ → LabelSet → EnumForm → Type 0
IsOwnLabel c set (label.Const l) = IsOnlyLabel set l
IsOwnLabel c set (label.Copy d) = (d ≡ c) × ((l : ℕ) → IsOnlyLabel set l → ⊥)

-- The form of the integer cell with this number gives the cell's own number: as a constant if the
-- span has only one number, else as the line that is equal to the cell.
abbrev pub IsOwnNumber : ℕ → Span → IntForm → Type 0
IsOwnNumber c span (number.Const n) = (span.lo ≡ n.value) × (span.hi ≡ n.value)
IsOwnNumber c span (number.Line line) =
    (line.cell ≡ c) × (line.a ≡ pos 1) × (offset line ≡ pos 0) × (span.lo <ℤ span.hi)

-- All labels of an enum with so many, and the label itself.
abbrev pub IsWholeEnum : ℕ → ℕ → Part → Form → Type 0
IsWholeEnum count c when f = IsSetPart (λ (set : LabelSet). IsEnumForm (λ (own : EnumForm).
    ((l : ℕ) → IsTrue (has_label set l) ↔ (l < count)) × IsOwnLabel c set own) f) when

-- All numbers of a range, and the number itself.
abbrev pub IsWholeRange : ℤ → ℤ → ℕ → Part → Form → Type 0
IsWholeRange lo hi c when f = IsSpanPart (λ (span : Span). IsIntForm (λ (own : IntForm).
    (span.lo ≡ lo) × (span.hi ≡ hi) × IsOwnNumber c span own) f) when

-- Any parts, and the parts themselves.
abbrev pub IsWholeHold : ℕ → Part → Form → Type 0
IsWholeHold c when f = IsFactsPart (λ (known : FactMap). IsHoldForm (λ (own : HoldForm).
    (known ≡ empty) × (own ≡ hold.Copy c)) f) when

-- All that the cell with this number may hold, as each number of its range, any parts or any list;
-- and the form that leaves it as it is.
abbrev pub IsWholeCell : ScriptPlan → ℕ → CellPlan → Part → Form → Type 0
IsWholeCell p c (plan.Enum of first) when f = IsWholeEnum (label_count p.enums of) c when f
IsWholeCell p c (plan.Int lo hi first clamp) when f = IsWholeRange lo hi c when f
IsWholeCell p c (plan.Hold kinds first) when f = IsWholeHold c when f
IsWholeCell p c (plan.Nums lo hi clamp) when f =
    IsFreePart (IsNumsForm (λ (added : List IntForm). added ≡ []) f) when
IsWholeCell p c plan.Words when f =
    IsFreePart (IsWordsForm (λ (added : List (List ℕ)). added ≡ []) f) when

-- One part and one form for each of the first cells, and each as above.
pub record AreWhole (p : ScriptPlan) (count : ℕ) (when : List Part)
    (forms : List Form) : Type 0 where
  pub part_count : length when ≡ count
  pub form_count : length forms ≡ count
  pub each : (c : ℕ) (cell : CellPlan) (now : Part) (f : Form)
      → slice_get p.cells c ≡ Some cell → slice_get when c ≡ Some now → slice_get forms c ≡ Some f
      → IsWholeCell p c cell now f

-- The path has these of all cells.
abbrev pub IsWholeEnd : ScriptPlan → List Part → PathEnd → Type 0
IsWholeEnd p when (Next forms) = AreWhole p (length p.cells) when forms
IsWholeEnd p when (Ended fault) = ⊥

-- The path admits all that each cell of the script may hold, and leaves the cell as it is.
abbrev pub IsWholePath : ScriptPlan → Path → Type 0
IsWholePath p path = IsWholeEnd p path.when path.end

-- The path admits each valid state, whatever the tests answer.
abbrev pub AdmitsAll : ScriptPlan → Path → Type 0
AdmitsAll p path = (truth : Truth) (s : State) → IsValid p s → Admits truth path.when s

-- The path leaves each valid state as it is.
abbrev pub LeavesAll : ScriptPlan → Path → Type 0
LeavesAll p path = (s : State) → IsValid p s → end_at path.end s ≡ Going s
