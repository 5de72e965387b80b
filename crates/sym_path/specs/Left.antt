-- What is left of a path's constraint where another path has to come after it.
use Rattle.std.specs.Prelude.{◌≡◌, ℕ, ℤ, ◌<◌, ◌<ℤ◌, ◌↔◌, ◌⊎◌, Bool, IsTrue, List, Some, length, map, slice_get, slice_set}
use Rattle.std.specs.List.{All, AllZip}
use Rattle.sym_enum.specs.Labels.{has_label, IsOnlyLabel}
use Rattle.sym_enum.specs.declared.label_set.LabelSet.{LabelSet}
use Rattle.sym_int.specs.Points.{HasPoint}
use Rattle.sym_int.specs.declared.span.Span.{Span}
use Rattle.sym_pred.specs.Meaning.{Stands}
use Rattle.sym_pred.specs.declared.form.HoldForm.{HoldForm}
use Rattle.sym_pred.specs.declared.form.HoldForm.TheVariants as hold
use Rattle.sym_path.specs.declared.part.Part.{Part}
use Rattle.sym_path.specs.declared.part.Part.TheVariants as part
use Rattle.sym_path.specs.declared.form.Form.{Form}
use Rattle.sym_path.specs.declared.form.Form.TheVariants as form
use Rattle.sym_path.specs.Narrowing.{with_label, CanPutNumber, NumberIsPut}
use Rattle.sym_path.specs.Possible.{LabelMeets, NumberMeets, IsSaid, IsLeft}
use Rattle.sym_path.specs.Kinds.{IsSetPart, IsSpanPart, IsFactsPart, IsFreePart}
use Rattle.sym_pred.specs.Facts.{Atom, FactMap}

-- The labels of a set that are as they are needed: there are some, and these are all.
abbrev pub LabelsLeft : List Form → List Part → ℕ → LabelSet → LabelSet → Type 0
LabelsLeft forms needs c old new =
    ((l : ℕ) × IsTrue (has_label new l))
    × ((l : ℕ) → IsTrue (has_label new l) ↔ (IsTrue (has_label old l) × LabelMeets forms needs c l))

-- The numbers of a span that are as they are needed.
abbrev pub NumbersLeft : List Form → List Part → ℕ → Span → Span → Type 0
NumbersLeft forms needs c old new =
    (x : ℤ) → HasPoint new x ↔ (HasPoint old x × NumberMeets forms needs c x)

-- The literals that are known of a cell or needed of its copies.
abbrev pub LiteralsLeft : List Form → List Part → ℕ → FactMap → FactMap → Type 0
LiteralsLeft forms needs c old new =
    (atom : Atom) (outcome : Bool) → Stands new atom outcome ↔ IsSaid old forms needs c atom outcome

-- What is left of a cell, of which this is the old part.
abbrev pub PartLeft : List Form → List Part → ℕ → Part → Part → Type 0
PartLeft forms needs c (part.Set old) left = IsSetPart (LabelsLeft forms needs c old) left
PartLeft forms needs c (part.Span old) left = IsSpanPart (NumbersLeft forms needs c old) left
PartLeft forms needs c (part.Facts old) left = IsFactsPart (LiteralsLeft forms needs c old) left
PartLeft forms needs c part.Free left = IsFreePart (Unit {0}) left

-- The literal with this atom and outcome is among the facts that are needed.
abbrev pub StandsIn : Part → Atom → Bool → Type 0
StandsIn (part.Set need) atom outcome = ⊥
StandsIn (part.Span need) atom outcome = ⊥
StandsIn (part.Facts need) atom outcome = Stands need atom outcome
StandsIn part.Free atom outcome = ⊥

-- The same, where a hold form copies the cell c.
abbrev pub CopyNeeds : ℕ → Part → Atom → Bool → HoldForm → Type 0
CopyNeeds c need atom outcome (hold.Const parts) = ⊥
CopyNeeds c need atom outcome (hold.Copy d) = (d ≡ c) × StandsIn need atom outcome

-- The form copies the hold cell c, and the literal is needed of it.
abbrev pub NeedsHere : ℕ → Form → Part → Atom → Bool → Type 0
NeedsHere c (form.Enum f) need atom outcome = ⊥
NeedsHere c (form.Int f) need atom outcome = ⊥
NeedsHere c (form.Hold f) need atom outcome = CopyNeeds c need atom outcome f
NeedsHere c (form.Nums added) need atom outcome = ⊥
NeedsHere c (form.Words added) need atom outcome = ⊥

-- It is needed of one of the first forms.
pub record NeededBelow (forms : List Form) (needs : List Part) (c n : ℕ) (atom : Atom)
    (outcome : Bool) : Type 0 where
  pub at : ℕ
  pub form : Form
  pub need : Part
  pub below : at < n
  pub has : slice_get forms at ≡ Some form
  pub needed : slice_get needs at ≡ Some need
  pub here : NeedsHere c form need atom outcome

-- Something is left of the cell c.
pub record HasLeft (forms : List Form) (needs : List Part) (c : ℕ) (when : List Part) : Type 0 where
  pub part : Part
  pub is : slice_get when c ≡ Some part
  pub some : IsLeft forms needs c part

-- What is left of the cell c is in the place of its part.
pub record LeftAt (forms : List Form) (needs : List Part) (c : ℕ)
    (old new : List Part) : Type 0 where
  pub part : Part
  pub left : Part
  pub was : slice_get old c ≡ Some part
  pub is : new ≡ slice_set old c left
  pub some : PartLeft forms needs c part left

-- What is left of all cells.
pub record AreLeft (forms : List Form) (needs when lefts : List Part) : Type 0 where
  pub lengths : length lefts ≡ length when
  pub each : (c : ℕ) (old new : Part) → slice_get when c ≡ Some old → slice_get lefts c ≡ Some new →
      PartLeft forms needs c old new

-- Where one label or one number is left of the cell, it is put in the cell's place in the forms.
abbrev pub LeftIsPut : ℕ → Part → List Form → List Form → Type 0
LeftIsPut c (part.Set set) fs gs =
    ((l : ℕ) × IsOnlyLabel set l × (gs ≡ map (with_label c l) fs))
    ⊎ (((l : ℕ) → IsOnlyLabel set l → ⊥) × (gs ≡ fs))
LeftIsPut c (part.Span span) fs gs =
    ((span.lo ≡ span.hi) × AllZip (NumberIsPut c span.lo) fs gs)
    ⊎ ((span.lo <ℤ span.hi) × (gs ≡ fs))
LeftIsPut c (part.Facts known) fs gs = gs ≡ fs
LeftIsPut c part.Free fs gs = gs ≡ fs

-- The condition under which it may be.
abbrev pub CanPutLeft : ℕ → Part → List Form → Type 0
CanPutLeft c (part.Set set) forms = Unit {0}
CanPutLeft c (part.Span span) forms = span.lo ≡ span.hi → All (CanPutNumber c span.lo) forms
CanPutLeft c (part.Facts known) forms = Unit {0}
CanPutLeft c part.Free forms = Unit {0}

-- It may be for whatever can be left of the cells.
abbrev pub CanPutAllLeft : List Form → List Part → List Part → Type 0
CanPutAllLeft forms needs when =
    (fs : List Form) (c : ℕ) (old left : Part) → slice_get when c ≡ Some old →
    PartLeft fs needs c old left → CanPutLeft c left forms

-- A set or a span is itself.
abbrev pub IsShape : Part → Part → Type 0
IsShape (part.Set set) shape = shape ≡ part.Set set
IsShape (part.Span span) shape = shape ≡ part.Span span
IsShape (part.Facts known) shape = Unit {0}
IsShape part.Free shape = shape ≡ part.Free

-- Something is left of the cell c, and may be put into the forms.
pub record CanNarrow (forms : List Form) (needs : List Part) (c : ℕ)
    (when : List Part) : Type 0 where
  pub part : Part
  pub is : slice_get when c ≡ Some part
  pub some : IsLeft forms needs c part
  pub numbers : (left : Part) → PartLeft forms needs c part left → CanPutLeft c left forms

-- What is left of the cell c is in the place of its part, and in its place in the forms.
pub record NarrowedAt (forms : List Form) (needs : List Part) (c : ℕ) (old new : List Part)
    (after : List Form) : Type 0 where
  pub part : Part
  pub left : Part
  pub was : slice_get old c ≡ Some part
  pub is : new ≡ slice_set old c left
  pub some : PartLeft forms needs c part left
  pub put : ((part ≡ left) × (after ≡ forms)) ⊎ LeftIsPut c left forms after
