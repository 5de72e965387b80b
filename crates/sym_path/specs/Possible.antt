-- Whether one path can come after another: what the second needs of the state that the first one
-- gives, said of the state before both.
use Rattle.std.specs.Prelude.{◌≡◌, ℕ, ℤ, Bool, not, IsTrue, List, Some, slice_get, ◌⊎◌}
use Rattle.sym_base.specs.declared.values.state.Cell.TheVariants as cell
use Rattle.sym_enum.specs.Labels.{has_label}
use Rattle.sym_enum.specs.declared.form.EnumForm.TheVariants as label
use Rattle.sym_enum.specs.declared.label_set.LabelSet.{LabelSet}
use Rattle.sym_int.specs.Lines.{form_on, form_cell}
use Rattle.sym_int.specs.Points.{HasPoint}
use Rattle.sym_int.specs.declared.form.IntForm.{IntForm}
use Rattle.sym_int.specs.declared.form.IntForm.TheVariants as number
use Rattle.sym_int.specs.declared.span.Span.{Span}
use Rattle.sym_pred.specs.Facts.{Atom, FactMap}
use Rattle.sym_base.specs.Tests.{Truth}
use Rattle.sym_pred.specs.Meaning.{Stands}
use Rattle.sym_pred.specs.declared.form.HoldForm.TheVariants as hold
use Rattle.sym_path.specs.declared.part.Part.{Part}
use Rattle.sym_path.specs.declared.part.Part.TheVariants as part
use Rattle.sym_path.specs.declared.form.Form.{Form}
use Rattle.sym_path.specs.declared.form.Form.TheVariants as form
use Rattle.sym_path.specs.declared.path.PathEnd.{PathEnd}
use Rattle.sym_path.specs.declared.path.PathEnd.TheVariants.{Next, Ended}
use Rattle.sym_path.specs.declared.path.Path.{Path}
use Rattle.sym_path.specs.Admitting.{PartAdmits}

-- A cell has this form after the first path, and the second one needs this of it.
pub record Meets (forms : List Form) (needs : List Part) (f : Form) (need : Part) : Type 0 where
  pub cell : ℕ
  pub has : slice_get forms cell ≡ Some f
  pub needed : slice_get needs cell ≡ Some need

-- A constant is as it is needed.
abbrev pub ConstantMeets : Truth → Form → Part → Type 0
ConstantMeets truth (form.Enum (label.Const l)) need = PartAdmits truth need (cell.Enum l)
ConstantMeets truth (form.Enum (label.Copy c)) need = Unit {0}
ConstantMeets truth (form.Int (number.Const n)) need = PartAdmits truth need (cell.Int n.value)
ConstantMeets truth (form.Int (number.Line line)) need = Unit {0}
ConstantMeets truth (form.Hold (hold.Const parts)) need = PartAdmits truth need (cell.Hold parts)
ConstantMeets truth (form.Hold (hold.Copy c)) need = Unit {0}
ConstantMeets truth (form.Nums added) need = Unit {0}
ConstantMeets truth (form.Words added) need = Unit {0}

-- The label is in all sets needed of the copies of the enum cell c.
abbrev pub LabelMeets : List Form → List Part → ℕ → ℕ → Type 0
LabelMeets forms needs c l =
    (need : LabelSet) → Meets forms needs (form.Enum (label.Copy c)) (part.Set need) →
    IsTrue (has_label need l)

-- Where the integer cell c holds x, all forms over it are in the spans needed of them.
abbrev pub NumberMeets : List Form → List Part → ℕ → ℤ → Type 0
NumberMeets forms needs c x =
    (f : IntForm) (need : Span) → form_cell f ≡ Some c →
    Meets forms needs (form.Int f) (part.Span need) → HasPoint need (form_on f x)

-- The literal with this atom and outcome is needed of a cell that copies the hold cell c.
pub record IsNeeded (forms : List Form) (needs : List Part) (c : ℕ) (atom : Atom)
    (outcome : Bool) : Type 0 where
  pub need : FactMap
  pub meets : Meets forms needs (form.Hold (hold.Copy c)) (part.Facts need)
  pub stands : Stands need atom outcome

-- It is known of the cell by these facts, or needed of a copy.
abbrev pub IsSaid : FactMap → List Form → List Part → ℕ → Atom → Bool → Type 0
IsSaid known forms needs c atom outcome =
    Stands known atom outcome ⊎ IsNeeded forms needs c atom outcome

-- What is left of a cell by its part and by what is needed of it: a label of an enum cell, a number
-- of an integer cell, and of a hold cell no literal against itself.
abbrev pub IsLeft : List Form → List Part → ℕ → Part → Type 0
IsLeft forms needs c (part.Set set) =
    (l : ℕ) × IsTrue (has_label set l) × LabelMeets forms needs c l
IsLeft forms needs c (part.Span span) = (x : ℤ) × HasPoint span x × NumberMeets forms needs c x
IsLeft forms needs c (part.Facts known) =
    (atom : Atom) (outcome : Bool) → IsSaid known forms needs c atom outcome →
    IsSaid known forms needs c atom (not outcome) → ⊥
IsLeft forms needs c part.Free = Unit {0}

-- Something is left of each cell by its part in the constraint and by what is needed of it.
abbrev pub AllLeft : List Part → List Form → List Part → Type 0
AllLeft when forms needs = (c : ℕ) (p : Part) → slice_get when c ≡ Some p → IsLeft forms needs c p

-- A path with this constraint and these forms can be followed by one with the constraint `needs`:
-- every constant is as it is needed, and no set and no span is empty, and no literal against
-- itself.
pub record Possible (truth : Truth) (when : List Part) (forms : List Form)
    (needs : List Part) : Type 0 where
  pub constants : (f : Form) (need : Part) → Meets forms needs f need → ConstantMeets truth f need
  pub cells : AllLeft when forms needs

-- The second path can come after the first. After a fault none can.
abbrev pub IsPossiblePair : Truth → Path → Path → Type 0
IsPossiblePair truth p q = can p.end
  where
    can : PathEnd → Type 0
    can (Next forms) = Possible truth p.when forms q.when
    can (Ended fault) = ⊥
