-- Forms taken on a constraint: a cell of which the constraint leaves one label or one number is
-- replaced by it. Facts replace nothing.
use Rattle.std.specs.Prelude.{◌≡◌, ℕ, ℤ, List, Option, Some, None, slice_get}
use Rattle.std.specs.List.{AllZip}
use Rattle.sym_enum.specs.Labels.{IsOnlyLabel}
use Rattle.sym_enum.specs.declared.form.EnumForm.{EnumForm}
use Rattle.sym_enum.specs.declared.form.EnumForm.TheVariants as label
use Rattle.sym_enum.specs.declared.label_set.LabelSet.{LabelSet}
use Rattle.sym_int.specs.Elements.{IsConstant}
use Rattle.sym_int.specs.Lines.{form_on, form_cell}
use Rattle.sym_int.specs.declared.form.IntForm.{IntForm}
use Rattle.sym_int.specs.declared.span.Span.{Span}
use Rattle.sym_path.specs.Kinds.{IsEnumForm, IsIntForm, IsNumsForm}
use Rattle.sym_path.specs.declared.part.Part.{Part}
use Rattle.sym_path.specs.declared.part.Part.TheVariants as part
use Rattle.sym_path.specs.declared.form.Form.{Form}
use Rattle.sym_path.specs.declared.form.Form.TheVariants as form

-- The constraint leaves the enum cell with this number this one label.
pub record HasOneLabel (when : List Part) (c l : ℕ) : Type 0 where
  pub set : LabelSet
  pub is : slice_get when c ≡ Some (part.Set set)
  pub only : IsOnlyLabel set l

-- The constraint leaves the integer cell with this number this one number.
pub record HasOneNumber (when : List Part) (c : ℕ) (x : ℤ) : Type 0 where
  pub span : Span
  pub is : slice_get when c ≡ Some (part.Span span)
  pub lo : span.lo ≡ x
  pub hi : span.hi ≡ x

-- The enum cell that a form copies, or the integer cell that it names.
abbrev pub copied_cell : EnumForm → Option ℕ
copied_cell (label.Const l) = None
copied_cell (label.Copy c) = Some c

-- The second label form is the first one on the constraint.
pub record LabelIsTakenTo (when : List Part) (f g : EnumForm) : Type 0 where
  pub one : (c l : ℕ) → copied_cell f ≡ Some c → HasOneLabel when c l → g ≡ label.Const l
  pub more : ((c l : ℕ) → copied_cell f ≡ Some c → HasOneLabel when c l → ⊥) → g ≡ f

-- The second integer form is the first one on the constraint.
pub record NumberIsTakenTo (when : List Part) (f g : IntForm) : Type 0 where
  pub one : (c : ℕ) (x : ℤ) → form_cell f ≡ Some c → HasOneNumber when c x →
      IsConstant (form_on f x) g
  pub more : ((c : ℕ) (x : ℤ) → form_cell f ≡ Some c → HasOneNumber when c x → ⊥) → g ≡ f

-- The second form is the first one on the constraint.
abbrev pub IsTakenTo : List Part → Form → Form → Type 0
IsTakenTo when (form.Enum f) g = IsEnumForm (LabelIsTakenTo when f) g
IsTakenTo when (form.Int f) g = IsIntForm (NumberIsTakenTo when f) g
IsTakenTo when (form.Hold f) g = g ≡ form.Hold f
IsTakenTo when (form.Nums added) g = IsNumsForm (AllZip (NumberIsTakenTo when) added) g
IsTakenTo when (form.Words added) g = g ≡ form.Words added

-- The forms are those of another list on the constraint.
abbrev pub AreTakenTo : List Part → List Form → List Form → Type 0
AreTakenTo when fs gs = AllZip (IsTakenTo when) fs gs

-- A form that is taken on the constraint: there is nothing to replace in it.
abbrev pub IsTakenOn : List Part → Form → Type 0
IsTakenOn when f = IsTakenTo when f f
