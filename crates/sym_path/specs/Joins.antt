-- Paths that are joined.
use Rattle.std.specs.Prelude.{◌≡◌, ◌≢◌, ◌≤◌, ◌<◌, ◌||◌, ◌↔◌, ◌⊎◌, ℕ, Bool, List, Some, length, slice_get, slice_set}
use Rattle.sym_base.specs.declared.values.state.State.{State}
use Rattle.sym_base.specs.declared.values.value.Value.{Value}
use Rattle.sym_base.specs.Tests.{Truth}
use Rattle.sym_check.specs.Plan.ScriptPlans.{ScriptPlan}
use Rattle.sym_enum.specs.Labels.{has_label}
use Rattle.sym_enum.specs.declared.label_set.LabelSet.{LabelSet}
use Rattle.sym_int.specs.Points.{IsUnion}
use Rattle.sym_int.specs.declared.form.IntForm.{IntForm}
use Rattle.sym_int.specs.declared.span.Span.{Span}
use Rattle.sym_pred.specs.Facts.{Atom, FactMap}
use Rattle.sym_pred.specs.Meaning.{Stands}
use Rattle.sym_pred.specs.Meaning as facts
use Rattle.sym_path.specs.declared.form.Form.{Form}
use Rattle.sym_path.specs.declared.form.Form.TheVariants as form
use Rattle.sym_path.specs.declared.part.Part.{Part}
use Rattle.sym_path.specs.declared.part.Part.TheVariants as part
use Rattle.sym_path.specs.declared.path.PathEnd.{PathEnd}
use Rattle.sym_path.specs.declared.path.PathEnd.TheVariants.{Next, Ended}
use Rattle.sym_path.specs.declared.path.Path.{Path}
use Rattle.sym_path.specs.Admitting.{Admits}
use Rattle.sym_path.specs.Fitting.{PathFits}
use Rattle.sym_path.specs.Giving.{end_at}
use Rattle.sym_path.specs.Taking.{AreTakenTo, NumberIsTakenTo}

-- The joined path admits the states that either admits, gives there what they give, ends as one of
-- them does, and fits where both fit.
pub record IsJoin (p q joined : Path) : Type 0 where
  pub admits : (truth : Truth) (s : State) →
      Admits truth joined.when s ↔ (Admits truth p.when s ⊎ Admits truth q.when s)
  pub first : (truth : Truth) (s : State) →
      Admits truth p.when s → end_at joined.end s ≡ end_at p.end s
  pub second : (truth : Truth) (s : State) →
      Admits truth q.when s → end_at joined.end s ≡ end_at q.end s
  pub end : (joined.end ≡ p.end) ⊎ (joined.end ≡ q.end)
  pub fits : (plan : ScriptPlan) → PathFits plan p → PathFits plan q → PathFits plan joined

-- The facts say what both say, and so they admit what either admits.
pub record AreUnitedFacts (a b united : FactMap) : Type 0 where
  pub literals : (atom : Atom) (outcome : Bool) →
      Stands united atom outcome ↔ (Stands a atom outcome × Stands b atom outcome)
  pub admits : (truth : Truth) (parts : List Value) →
      facts.Admits truth united parts ↔
      (facts.Admits truth a parts ⊎ facts.Admits truth b parts)

-- The third part is the union of the first two.
pub data IsUnitedPart : Part → Part → Part → Type 0 where
  sets : (a b united : LabelSet)
      → ((l : ℕ) → has_label united l ≡ (has_label a l || has_label b l))
      → IsUnitedPart (part.Set a) (part.Set b) (part.Set united)
  spans : (a b united : Span)
      → IsUnion united a b
      → IsUnitedPart (part.Span a) (part.Span b) (part.Span united)
  facts_of : (a b united : FactMap)
      → AreUnitedFacts a b united
      → IsUnitedPart (part.Facts a) (part.Facts b) (part.Facts united)
  free : IsUnitedPart part.Free part.Free part.Free

-- The third constraint is the first one but for one cell, in which it is the union of the first
-- two, which are equal elsewhere.
pub record IsUnitedInOne (v w united : List Part) : Type 0 where
  pub cell : ℕ
  pub first : Part
  pub second : Part
  pub union : Part
  pub in_first : slice_get v cell ≡ Some first
  pub in_second : slice_get w cell ≡ Some second
  pub others : (c : ℕ) → c ≢ cell → slice_get v c ≡ slice_get w c
  pub unites : IsUnitedPart first second union
  pub is : united ≡ slice_set v cell union

-- The third constraint is the union of the first two.
abbrev pub AreUnited : List Part → List Part → List Part → Type 0
AreUnited v w united = ((v ≡ w) × (united ≡ v)) ⊎ IsUnitedInOne v w united

-- The second list's number at an index, where both have one, is the first one's on the constraint.
abbrev pub AddedIsTaken : List Part → List IntForm → List IntForm → ℕ → Type 0
AddedIsTaken when fs gs index =
    (f g : IntForm) → slice_get fs index ≡ Some f → slice_get gs index ≡ Some g →
    NumberIsTakenTo when f g

-- How many elements a list form adds; none where it isn't one.
abbrev pub added_count : Form → ℕ
added_count (form.Enum f) = 0
added_count (form.Int f) = 0
added_count (form.Hold f) = 0
added_count (form.Nums added) = length added
added_count (form.Words added) = length added

-- The forms add as many elements to each list as the others.
pub record AddAsMany (fs gs : List Form) : Type 0 where
  pub lengths : length fs ≡ length gs
  pub counts : (i : ℕ) (f g : Form) → slice_get fs i ≡ Some f → slice_get gs i ≡ Some g →
      added_count f ≡ added_count g

-- The second end is the first one on the constraint: the same fault, or its forms.
abbrev pub EndIsTakenTo : List Part → PathEnd → PathEnd → Type 0
EndIsTakenTo when (Next fs) (Next gs) = AreTakenTo when fs gs
EndIsTakenTo when (Next fs) (Ended b) = ⊥
EndIsTakenTo when (Ended a) (Next gs) = ⊥
EndIsTakenTo when (Ended a) (Ended b) = a ≡ b

-- The end is that of one path, which, taken on the other's constraint, is the other's.
abbrev pub IsJoinedEnd : Path → Path → PathEnd → Type 0
IsJoinedEnd p q end =
    (EndIsTakenTo q.when p.end q.end × (end ≡ p.end))
    ⊎ (EndIsTakenTo p.when q.end p.end × (end ≡ q.end))

-- From one cell on, the constraints are equal before this cell and differ in it, or it is their
-- length.
pub record IsDifference (v w : List Part) (first cell : ℕ) : Type 0 where
  pub from : first ≤ cell
  pub within : cell ≤ length v
  pub same : (c : ℕ) → first ≤ c → c < cell → slice_get v c ≡ slice_get w c
  pub differs : cell < length v → slice_get v cell ≢ slice_get w cell
