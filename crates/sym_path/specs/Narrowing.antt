-- A path's constraint narrowed in one cell.
use Rattle.std.specs.Prelude.{◌≡◌, ℕ, ℤ, ◌≤ℤ◌, ◌<ℤ◌, ◌==◌, map, slice_set, Bool, false, IsTrue, [], Option, Some, None, slice_get, ◌⊎◌, if◌then◌else◌}
use Rattle.std.specs.List.{All, AllZip}
use Rattle.sym_base.specs.declared.values.state.Cell.{Cell}
use Rattle.sym_base.specs.declared.values.state.State.{State}
use Rattle.sym_enum.specs.Labels.{has_label, IsOnlyLabel}
use Rattle.sym_enum.specs.declared.form.EnumForm.{EnumForm}
use Rattle.sym_enum.specs.declared.form.EnumForm.TheVariants as label
use Rattle.sym_enum.specs.declared.label_set.LabelSet.{LabelSet}
use Rattle.sym_int.specs.Elements.{CanFix, IsFixedTo}
use Rattle.sym_int.specs.declared.span.Span.{Span}
use Rattle.sym_base.specs.Tests.{Truth}
use Rattle.sym_path.specs.declared.part.Part.{Part}
use Rattle.sym_path.specs.declared.part.Part.TheVariants as part
use Rattle.sym_path.specs.declared.form.Form.{Form}
use Rattle.sym_path.specs.declared.form.Form.TheVariants as form
use Rattle.sym_path.specs.declared.path.PathEnd.{PathEnd}
use Rattle.sym_path.specs.declared.path.PathEnd.TheVariants.{Next, Ended}
use Rattle.sym_path.specs.declared.path.Path.{Path}
use Rattle.sym_path.specs.Admitting.{part_admits}
use Rattle.sym_path.specs.Giving.{given}
use Rattle.sym_path.specs.Kinds.{IsIntForm, IsNumsForm}

-- Whether the cell with this number is there and as the part says.
abbrev pub cell_admitted : Truth → Part → Option Cell → Bool
cell_admitted truth p None = false
cell_admitted truth p (Some c) = part_admits truth p c

-- The second path gives what the first one gives, and only where this cell is as the part says.
abbrev pub GivesWhere : Path → ℕ → Part → Path → Type 0
GivesWhere old c p new = (truth : Truth) (s : State) →
    given truth new s
    ≡ (if cell_admitted truth p (slice_get s.cells c) then given truth old s else [])

-- A set with some of the labels of another one.
pub record IsSubset (old new : LabelSet) : Type 0 where
  pub some : (l : ℕ) × IsTrue (has_label new l)
  pub within : (l : ℕ) → IsTrue (has_label new l) → IsTrue (has_label old l)

-- A span within another one.
abbrev pub IsSubspan : Span → Span → Type 0
IsSubspan old new = (old.lo ≤ℤ new.lo) × (new.hi ≤ℤ old.hi)

-- The part of the cell is a set, or a span, that this one narrows.
abbrev pub NarrowsLabels : LabelSet → Option Part → Type 0
NarrowsLabels new None = ⊥
NarrowsLabels new (Some (part.Set old)) = IsSubset old new
NarrowsLabels new (Some (part.Span old)) = ⊥
NarrowsLabels new (Some (part.Facts old)) = ⊥
NarrowsLabels new (Some part.Free) = ⊥

-- The part of the cell is a span, and this span is within it.
abbrev pub NarrowsNumbers : Span → Option Part → Type 0
NarrowsNumbers new None = ⊥
NarrowsNumbers new (Some (part.Set old)) = ⊥
NarrowsNumbers new (Some (part.Span old)) = IsSubspan old new
NarrowsNumbers new (Some (part.Facts old)) = ⊥
NarrowsNumbers new (Some part.Free) = ⊥

-- A form in which a label is put in the place of an enum cell.
abbrev pub label_put : ℕ → ℕ → EnumForm → EnumForm
label_put c l (label.Const m) = label.Const m
label_put c l (label.Copy d) = if d == c then label.Const l else label.Copy d

-- A form of any kind in which a label is put in the place of an enum cell; only an enum form can
-- change.
abbrev pub with_label : ℕ → ℕ → Form → Form
with_label c l (form.Enum f) = form.Enum (label_put c l f)
with_label c l (form.Int f) = form.Int f
with_label c l (form.Hold f) = form.Hold f
with_label c l (form.Nums added) = form.Nums added
with_label c l (form.Words added) = form.Words added

-- The condition under which a number may be put in the place of an integer cell.
abbrev pub CanPutNumber : ℕ → ℤ → Form → Type 0
CanPutNumber c x (form.Enum f) = Unit {0}
CanPutNumber c x (form.Int f) = CanFix f c x
CanPutNumber c x (form.Hold f) = Unit {0}
CanPutNumber c x (form.Nums added) = All (λ f. CanFix f c x) added
CanPutNumber c x (form.Words added) = Unit {0}

-- A form in which it is.
abbrev pub NumberIsPut : ℕ → ℤ → Form → Form → Type 0
NumberIsPut c x (form.Enum f) g = g ≡ form.Enum f
NumberIsPut c x (form.Int f) g = IsIntForm (IsFixedTo f c x) g
NumberIsPut c x (form.Hold f) g = g ≡ form.Hold f
NumberIsPut c x (form.Nums added) g = IsNumsForm (AllZip (λ old new. IsFixedTo old c x new) added) g
NumberIsPut c x (form.Words added) g = g ≡ form.Words added

-- What the forms of an end become where a label, or a number, is put in the place of a cell.
abbrev pub end_with_label : ℕ → ℕ → PathEnd → PathEnd
end_with_label c l (Next forms) = Next (map (with_label c l) forms)
end_with_label c l (Ended fault) = Ended fault

-- The condition under which a number may be put in the place of an integer cell in all forms of an
-- end.
abbrev pub CanPutAtEnd : ℕ → ℤ → PathEnd → Type 0
CanPutAtEnd c x (Next forms) = All (CanPutNumber c x) forms
CanPutAtEnd c x (Ended fault) = Unit {0}

-- The second end is the first one with a number in the place of an integer cell; a fault stays.
abbrev pub NumberIsPutAtEnd : ℕ → ℤ → PathEnd → PathEnd → Type 0
NumberIsPutAtEnd c x (Next fs) (Next gs) = AllZip (NumberIsPut c x) fs gs
NumberIsPutAtEnd c x (Next fs) (Ended b) = ⊥
NumberIsPutAtEnd c x (Ended a) (Next gs) = ⊥
NumberIsPutAtEnd c x (Ended a) (Ended b) = b ≡ a

-- A set in the place of a cell's part: where it has one label, this is put in the cell's place.
pub record LabelsNarrowed (c : ℕ) (set : LabelSet) (old new : Path) : Type 0 where
  pub when : new.when ≡ slice_set old.when c (part.Set set)
  pub end :
      ((l : ℕ) × IsOnlyLabel set l × (new.end ≡ end_with_label c l old.end))
      ⊎ (((l : ℕ) → IsOnlyLabel set l → ⊥) × (new.end ≡ old.end))

-- The same of a span.
pub record NumbersNarrowed (c : ℕ) (span : Span) (old new : Path) : Type 0 where
  pub when : new.when ≡ slice_set old.when c (part.Span span)
  pub one : span.lo ≡ span.hi → NumberIsPutAtEnd c span.lo old.end new.end
  pub more : span.lo <ℤ span.hi → new.end ≡ old.end
