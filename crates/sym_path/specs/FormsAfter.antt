-- The forms of one path and then of another.
use Rattle.std.specs.Prelude.{◌≡◌, ◌≢◌, ℕ, ◌≤◌, ◌+◌, ◌⊎◌, List, Option, Some, None, length, take, drop, slice_get}
use Rattle.std.specs.List.{All, AllZip}
use Rattle.sym_enum.specs.declared.form.EnumForm.TheVariants as label
use Rattle.sym_int.specs.Lines.{form_cell}
use Rattle.sym_int.specs.declared.element.IntForms.{IntForms}
use Rattle.sym_int.specs.declared.form.IntForm.{IntForm}
use Rattle.sym_int.specs.declared.span.Span.{Span}
use Rattle.sym_pred.specs.declared.form.HoldForm.TheVariants as hold
use Rattle.sym_path.specs.declared.part.Part.{Part}
use Rattle.sym_path.specs.declared.part.Part.TheVariants as part
use Rattle.sym_path.specs.declared.form.Form.{Form}
use Rattle.sym_path.specs.declared.form.Form.TheVariants as form
use Rattle.sym_path.specs.declared.path.PathEnd.{PathEnd}
use Rattle.sym_path.specs.declared.path.PathEnd.TheVariants.{Next, Ended}
use Rattle.sym_path.specs.Kinds.{IsNumsForm, IsWordsForm, IsIntForm, number_form_in, span_in}
use Rattle.sym_int.specs.Elements.{CanGoOver, GoesOverTo, CanGoThrough, GoesThroughTo}

-- An integer form stands for the form of an integer cell.
abbrev pub IsNumberOf : Form → IntForm → Type 0
IsNumberOf (form.Enum f) g = Unit {0}
IsNumberOf (form.Int f) g = g ≡ f
IsNumberOf (form.Hold f) g = Unit {0}
IsNumberOf (form.Nums added) g = Unit {0}
IsNumberOf (form.Words added) g = Unit {0}

-- A span stands for the part of an integer cell.
abbrev pub IsSpanOf : Part → Span → Type 0
IsSpanOf (part.Set set) s = Unit {0}
IsSpanOf (part.Span span) s = s ≡ span
IsSpanOf (part.Facts known) s = Unit {0}
IsSpanOf part.Free s = Unit {0}

-- The forms of the integer cells, and the spans in which these lie.
pub record IsContext (forms : List Form) (lefts : List Part) (context : IntForms) : Type 0 where
  pub numbers : AllZip IsNumberOf forms context.forms
  pub ranges : AllZip IsSpanOf lefts context.spans

-- The numbers that a list form adds name no integer cell.
abbrev pub AddsConstants : Form → Type 0
AddsConstants (form.Enum f) = Unit {0}
AddsConstants (form.Int f) = Unit {0}
AddsConstants (form.Hold f) = Unit {0}
AddsConstants (form.Nums added) = All (λ f. form_cell f ≡ None) added
AddsConstants (form.Words added) = Unit {0}

-- The forms of the integer cells and the spans in which these lie, by the numbers of the cells.
abbrev pub number_forms : List Form → ℕ → Option IntForm
number_forms forms c = number_form_in (slice_get forms c)

-- The span of the integer cell with this number; none where the number is not that of an integer
-- cell.
abbrev pub part_spans : List Part → ℕ → Option Span
part_spans parts c = span_in (slice_get parts c)

-- A number form can come after the forms: a line can go through the form of its cell.
abbrev pub CanLead : List Form → List Part → IntForm → Type 0
CanLead forms lefts f = CanGoOver f (number_forms forms) (part_spans lefts)

-- What it becomes: a constant stays, and a line becomes the line over the form of its cell, on what
-- is left of the cell that it then names.
abbrev pub LedTo : List Form → List Part → IntForm → IntForm → Type 0
LedTo forms lefts f after = GoesOverTo f (number_forms forms) (part_spans lefts) after

-- The form of a list cell.
abbrev pub IsList : Form → Type 0
IsList (form.Enum f) = ⊥
IsList (form.Int f) = ⊥
IsList (form.Hold f) = ⊥
IsList (form.Nums added) = Unit {0}
IsList (form.Words added) = Unit {0}

-- The form of an enum cell or of a hold cell, which other forms may copy.
abbrev pub IsCopied : Option Form → Type 0
IsCopied (Some (form.Enum f)) = Unit {0}
IsCopied (Some (form.Int f)) = ⊥
IsCopied (Some (form.Hold f)) = Unit {0}
IsCopied (Some (form.Nums added)) = ⊥
IsCopied (Some (form.Words added)) = ⊥
IsCopied None = ⊥

-- The form copies the cell c.
abbrev pub Copies : ℕ → Form → Type 0
Copies c (form.Enum (label.Const l)) = ⊥
Copies c (form.Enum (label.Copy d)) = d ≡ c
Copies c (form.Int f) = ⊥
Copies c (form.Hold (hold.Const parts)) = ⊥
Copies c (form.Hold (hold.Copy d)) = d ≡ c
Copies c (form.Nums added) = ⊥
Copies c (form.Words added) = ⊥

-- A form from the n-th on copies the cell c.
pub record CopiedFrom (gs : List Form) (n c : ℕ) : Type 0 where
  pub at : ℕ
  pub form : Form
  pub from : n ≤ at
  pub has : slice_get gs at ≡ Some form
  pub copies : Copies c form

-- The form f of the cell c is needed for the forms from the n-th on: lines may name any integer
-- cell, and elements are added to the form of the list cell itself.
abbrev pub NeededFrom : List Form → ℕ → ℕ → Form → Type 0
NeededFrom gs n c (form.Enum f) = CopiedFrom gs n c
NeededFrom gs n c (form.Int f) = Unit {0}
NeededFrom gs n c (form.Hold f) = CopiedFrom gs n c
NeededFrom gs n c (form.Nums added) = n ≤ c
NeededFrom gs n c (form.Words added) = n ≤ c

-- A list form of numbers, or of words, that is there.
abbrev pub IsNums : Option Form → Type 0
IsNums (Some (form.Nums added)) = Unit {0}
IsNums (Some (form.Enum f)) = ⊥
IsNums (Some (form.Int f)) = ⊥
IsNums (Some (form.Hold f)) = ⊥
IsNums (Some (form.Words added)) = ⊥
IsNums None = ⊥

-- A list form of words that is there.
abbrev pub IsWords : Option Form → Type 0
IsWords (Some (form.Words added)) = Unit {0}
IsWords (Some (form.Enum f)) = ⊥
IsWords (Some (form.Int f)) = ⊥
IsWords (Some (form.Hold f)) = ⊥
IsWords (Some (form.Nums added)) = ⊥
IsWords None = ⊥

-- The condition under which a form of the cell c can come after others.
abbrev pub CanComeAfter : List Form → List Part → IntForms → ℕ → Form → Type 0
CanComeAfter forms lefts context c (form.Enum (label.Const l)) = Unit {0}
CanComeAfter forms lefts context c (form.Enum (label.Copy d)) = IsCopied (slice_get forms d)
CanComeAfter forms lefts context c (form.Int f) = CanLead forms lefts f
CanComeAfter forms lefts context c (form.Hold (hold.Const parts)) = Unit {0}
CanComeAfter forms lefts context c (form.Hold (hold.Copy d)) = IsCopied (slice_get forms d)
CanComeAfter forms lefts context c (form.Nums added) =
    IsNums (slice_get forms c) × All (λ f. CanGoThrough f context) added
CanComeAfter forms lefts context c (form.Words added) = IsWords (slice_get forms c)

-- Numbers that begin with the first ones, after which come the added ones, each as it is through
-- the context.
abbrev pub AddsNums : IntForms → List IntForm → List IntForm → List IntForm → Type 0
AddsNums context added first new =
    (take (length first) new ≡ first)
    × AllZip (λ f g. GoesThroughTo f context g) added (drop (length first) new)

-- Words that begin with the first ones, after which come the added ones.
abbrev pub AddsWords : List (List ℕ) → List (List ℕ) → List (List ℕ) → Type 0
AddsWords added first new =
    (take (length first) new ≡ first)
    × AllZip (λ (old t : List ℕ). t ≡ old) added (drop (length first) new)

-- The form of a list cell after its own form: numbers, or words, are added to it.
abbrev pub NumsAfter : IntForms → List IntForm → Option Form → Form → Type 0
NumsAfter context added None after = ⊥
NumsAfter context added (Some (form.Enum f)) after = ⊥
NumsAfter context added (Some (form.Int f)) after = ⊥
NumsAfter context added (Some (form.Hold f)) after = ⊥
NumsAfter context added (Some (form.Nums first)) after =
    IsNumsForm (AddsNums context added first) after
NumsAfter context added (Some (form.Words words)) after = ⊥

-- The form of a list of words after its own form: the words are added after those of that form.
abbrev pub WordsAfter : List (List ℕ) → Option Form → Form → Type 0
WordsAfter added None after = ⊥
WordsAfter added (Some (form.Enum f)) after = ⊥
WordsAfter added (Some (form.Int f)) after = ⊥
WordsAfter added (Some (form.Hold f)) after = ⊥
WordsAfter added (Some (form.Nums numbers)) after = ⊥
WordsAfter added (Some (form.Words first)) after = IsWordsForm (AddsWords added first) after

-- What a form of the cell c becomes after others: a constant stays, a copy becomes the form of the
-- copied cell, a line goes through the form of the cell that it names, and elements are added after
-- those of the cell's form.
abbrev pub FormAfter : List Form → List Part → IntForms → ℕ → Form → Form → Type 0
FormAfter forms lefts context c (form.Enum (label.Const l)) g = g ≡ form.Enum (label.Const l)
FormAfter forms lefts context c (form.Enum (label.Copy d)) g = slice_get forms d ≡ Some g
FormAfter forms lefts context c (form.Int f) g = IsIntForm (LedTo forms lefts f) g
FormAfter forms lefts context c (form.Hold (hold.Const parts)) g = g ≡ form.Hold (hold.Const parts)
FormAfter forms lefts context c (form.Hold (hold.Copy d)) g = slice_get forms d ≡ Some g
FormAfter forms lefts context c (form.Nums added) g = NumsAfter context added (slice_get forms c) g
FormAfter forms lefts context c (form.Words added) g = WordsAfter added (slice_get forms c) g

-- The forms stay but for that of the cell c.
abbrev pub LacksOnly : ℕ → List Form → List Form → Type 0
LacksOnly c old new = (d : ℕ) → d ≢ c → slice_get new d ≡ slice_get old d

-- The forms that are needed after the n-th one stay.
abbrev pub KeepsNeeded : List Form → ℕ → List Form → List Form → Type 0
KeepsNeeded gs n old new =
    (d : ℕ) (f : Form) → slice_get old d ≡ Some f → NeededFrom gs (n + 1) d f →
    slice_get new d ≡ Some f

-- The forms stay but for that of the cell c, if this is a list cell.
abbrev pub KeepsOthers : ℕ → List Form → List Form → Type 0
KeepsOthers c old new =
    (d : ℕ) (f : Form) → slice_get old d ≡ Some f → (d ≢ c) ⊎ (IsList f → ⊥) →
    slice_get new d ≡ Some f

-- All forms after others.
abbrev pub AllCanComeAfter : List Form → List Part → IntForms → List Form → Type 0
AllCanComeAfter forms lefts context gs =
    (c : ℕ) (g : Form) → slice_get gs c ≡ Some g → CanComeAfter forms lefts context c g

-- The last list has as many forms as the second one, each of them what the second list's form of
-- the same cell becomes after the first forms.
pub record AreAfter (forms : List Form) (lefts : List Part) (context : IntForms)
    (gs rs : List Form) : Type 0 where
  pub lengths : length rs ≡ length gs
  pub each : (c : ℕ) (g r : Form) → slice_get gs c ≡ Some g → slice_get rs c ≡ Some r →
      FormAfter forms lefts context c g r

-- The second path's end can come after forms on what is left: a fault can, and where it goes on,
-- its forms can.
abbrev pub CanEndAfter : List Form → List Part → PathEnd → Type 0
CanEndAfter forms lefts (Next gs) =
    (context : IntForms) → IsContext forms lefts context → AllCanComeAfter forms lefts context gs
CanEndAfter forms lefts (Ended fault) = Unit {0}

-- What its forms become after those of the first path, and their added numbers by a context of
-- these.
pub record AreNext (forms : List Form) (lefts : List Part) (gs : List Form) (end : PathEnd)
    : Type 0 where
  pub after : List Form
  pub is : end ≡ Next after
  pub context : IntForms
  pub known : IsContext forms lefts context
  pub become : AreAfter forms lefts context gs after

-- What the second path's end becomes after the forms: it goes on by what its forms become, and a
-- fault stays.
abbrev pub EndsAfter : List Form → List Part → PathEnd → PathEnd → Type 0
EndsAfter forms lefts (Next gs) end = AreNext forms lefts gs end
EndsAfter forms lefts (Ended fault) end = end ≡ Ended fault
