-- Parts and forms of one kind.
use Rattle.std.specs.Prelude.{ℕ, List, Option, Some, None}
use Rattle.sym_enum.specs.declared.form.EnumForm.{EnumForm}
use Rattle.sym_enum.specs.declared.label_set.LabelSet.{LabelSet}
use Rattle.sym_int.specs.declared.form.IntForm.{IntForm}
use Rattle.sym_int.specs.declared.span.Span.{Span}
use Rattle.sym_pred.specs.Facts.{FactMap}
use Rattle.sym_pred.specs.declared.form.HoldForm.{HoldForm}
use Rattle.sym_path.specs.declared.part.Part.{Part}
use Rattle.sym_path.specs.declared.part.Part.TheVariants as part
use Rattle.sym_path.specs.declared.form.Form.{Form}
use Rattle.sym_path.specs.declared.form.Form.TheVariants as form

-- The part is a set of labels with a property; and so for the other kinds.
abbrev pub IsSetPart : (LabelSet → Type 0) → Part → Type 0
IsSetPart property (part.Set set) = property set
IsSetPart property (part.Span span) = ⊥
IsSetPart property (part.Facts known) = ⊥
IsSetPart property part.Free = ⊥

-- The part is a span with a property.
abbrev pub IsSpanPart : (Span → Type 0) → Part → Type 0
IsSpanPart property (part.Set set) = ⊥
IsSpanPart property (part.Span span) = property span
IsSpanPart property (part.Facts known) = ⊥
IsSpanPart property part.Free = ⊥

-- The part is a map of facts with a property.
abbrev pub IsFactsPart : (FactMap → Type 0) → Part → Type 0
IsFactsPart property (part.Set set) = ⊥
IsFactsPart property (part.Span span) = ⊥
IsFactsPart property (part.Facts known) = property known
IsFactsPart property part.Free = ⊥

-- The part is that of a list cell, which may hold anything, and the statement holds.
abbrev pub IsFreePart : Type 0 → Part → Type 0
IsFreePart property (part.Set set) = ⊥
IsFreePart property (part.Span span) = ⊥
IsFreePart property (part.Facts known) = ⊥
IsFreePart property part.Free = property

-- The span of an integer cell; none of another cell, and where there is no part.
abbrev pub span_in : Option Part → Option Span
span_in None = None
span_in (Some (part.Set set)) = None
span_in (Some (part.Span span)) = Some span
span_in (Some (part.Facts known)) = None
span_in (Some part.Free) = None

-- The form is that of an enum cell, and has a property; and so for the other kinds.
abbrev pub IsEnumForm : (EnumForm → Type 0) → Form → Type 0
IsEnumForm property (form.Enum f) = property f
IsEnumForm property (form.Int f) = ⊥
IsEnumForm property (form.Hold f) = ⊥
IsEnumForm property (form.Nums added) = ⊥
IsEnumForm property (form.Words added) = ⊥

-- The form is that of an integer cell, and has a property.
abbrev pub IsIntForm : (IntForm → Type 0) → Form → Type 0
IsIntForm property (form.Enum f) = ⊥
IsIntForm property (form.Int f) = property f
IsIntForm property (form.Hold f) = ⊥
IsIntForm property (form.Nums added) = ⊥
IsIntForm property (form.Words added) = ⊥

-- The form is that of a hold cell, and has a property.
abbrev pub IsHoldForm : (HoldForm → Type 0) → Form → Type 0
IsHoldForm property (form.Enum f) = ⊥
IsHoldForm property (form.Int f) = ⊥
IsHoldForm property (form.Hold f) = property f
IsHoldForm property (form.Nums added) = ⊥
IsHoldForm property (form.Words added) = ⊥

-- The form is that of a list of numbers, and the numbers that it adds have a property.
abbrev pub IsNumsForm : (List IntForm → Type 0) → Form → Type 0
IsNumsForm property (form.Enum f) = ⊥
IsNumsForm property (form.Int f) = ⊥
IsNumsForm property (form.Hold f) = ⊥
IsNumsForm property (form.Nums added) = property added
IsNumsForm property (form.Words added) = ⊥

-- The form is that of a list of words, and the words that it adds have a property.
abbrev pub IsWordsForm : (List (List ℕ) → Type 0) → Form → Type 0
IsWordsForm property (form.Enum f) = ⊥
IsWordsForm property (form.Int f) = ⊥
IsWordsForm property (form.Hold f) = ⊥
IsWordsForm property (form.Nums added) = ⊥
IsWordsForm property (form.Words added) = property added

-- The form of an integer cell; none of another cell, and where there is no form.
abbrev pub number_form_in : Option Form → Option IntForm
number_form_in None = None
number_form_in (Some (form.Enum f)) = None
number_form_in (Some (form.Int f)) = Some f
number_form_in (Some (form.Hold f)) = None
number_form_in (Some (form.Nums added)) = None
number_form_in (Some (form.Words added)) = None
