-- What is needed of one cell, form by form, as tests that compute.
use Rattle.std.specs.Prelude.{◌≡◌, Some, slice_get, ℕ, ℤ, Bool, true, ◌&&◌, ◌==◌, if◌then◌else◌, List, [], ◌∷◌}
use Rattle.sym_base.specs.declared.values.state.Cell.TheVariants as cell
use Rattle.sym_enum.specs.Labels.{has_label}
use Rattle.sym_enum.specs.declared.form.EnumForm.{EnumForm}
use Rattle.sym_enum.specs.declared.form.EnumForm.TheVariants as label
use Rattle.sym_int.specs.Lines.{form_on}
use Rattle.sym_int.specs.declared.form.IntForm.{IntForm}
use Rattle.sym_int.specs.declared.form.IntForm.TheVariants as number
use Rattle.sym_pred.specs.Facts.{FactMap}
use Rattle.sym_base.specs.Tests.{Truth}
use Rattle.sym_pred.specs.Meaning.{Clash}
use Rattle.sym_pred.specs.declared.form.HoldForm.{HoldForm}
use Rattle.sym_pred.specs.declared.form.HoldForm.TheVariants as hold
use Rattle.sym_path.specs.declared.part.Part.{Part}
use Rattle.sym_path.specs.declared.part.Part.TheVariants as part
use Rattle.sym_path.specs.declared.form.Form.{Form}
use Rattle.sym_path.specs.declared.form.Form.TheVariants as form
use Rattle.sym_path.specs.Admitting.{part_admits, has_point}

-- Whether each pair of two lists passes a test.
abbrev pub zip_all : {A B : Type 0} → (A → B → Bool) → List A → List B → Bool
zip_all test [] [] = true
zip_all test [] (y ∷ ys) = true
zip_all test (x ∷ xs) [] = true
zip_all test (x ∷ xs) (y ∷ ys) = test x y && zip_all test xs ys

-- Whether a constant is as it is needed.
abbrev pub constant_meets : Truth → Form → Part → Bool
constant_meets truth (form.Enum (label.Const l)) need = part_admits truth need (cell.Enum l)
constant_meets truth (form.Enum (label.Copy c)) need = true
constant_meets truth (form.Int (number.Const n)) need = part_admits truth need (cell.Int n.value)
constant_meets truth (form.Int (number.Line line)) need = true
constant_meets truth (form.Hold (hold.Const parts)) need = part_admits truth need (cell.Hold parts)
constant_meets truth (form.Hold (hold.Copy c)) need = true
constant_meets truth (form.Nums added) need = true
constant_meets truth (form.Words added) need = true

-- Whether a label is in the needed set; true where the need is no set.
abbrev pub in_set : Part → ℕ → Bool
in_set (part.Set need) l = has_label need l
in_set (part.Span need) l = true
in_set (part.Facts need) l = true
in_set part.Free l = true

-- Whether the label l of the enum cell c is in the set needed of a label form; true where the form
-- does not copy this cell.
abbrev pub enum_passes : ℕ → ℕ → Part → EnumForm → Bool
enum_passes c l need (label.Const m) = true
enum_passes c l need (label.Copy d) = if d == c then in_set need l else true

-- Whether the label of the enum cell c is in the set needed of a form.
abbrev pub label_passes : ℕ → ℕ → Form → Part → Bool
label_passes c l (form.Enum f) need = enum_passes c l need f
label_passes c l (form.Int f) need = true
label_passes c l (form.Hold f) need = true
label_passes c l (form.Nums added) need = true
label_passes c l (form.Words added) need = true

-- Whether a number is in the needed span; true where the need is no span.
abbrev pub in_span : Part → ℤ → Bool
in_span (part.Set need) x = true
in_span (part.Span need) x = has_point need x
in_span (part.Facts need) x = true
in_span part.Free x = true

-- Whether an integer form has a number in the needed span where the integer cell c holds x; true
-- where the form does not name this cell.
abbrev pub int_passes : ℕ → ℤ → Part → IntForm → Bool
int_passes c x need (number.Const n) = true
int_passes c x need (number.Line line) =
    if line.cell == c then in_span need (form_on (number.Line line) x) else true

-- Whether a form over the integer cell c is in the span needed of it, where the cell holds x.
abbrev pub number_passes : ℕ → ℤ → Form → Part → Bool
number_passes c x (form.Enum f) need = true
number_passes c x (form.Int f) need = int_passes c x need f
number_passes c x (form.Hold f) need = true
number_passes c x (form.Nums added) need = true
number_passes c x (form.Words added) need = true

-- No literal of the facts stands in what is needed with the other outcome.
abbrev pub FactsAgree : FactMap → Part → Type 0
FactsAgree known (part.Set need) = Unit {0}
FactsAgree known (part.Span need) = Unit {0}
FactsAgree known (part.Facts need) = Clash known need → ⊥
FactsAgree known part.Free = Unit {0}

-- If a hold form copies the hold cell c, the facts agree with what is needed of it.
abbrev pub HoldAgrees : ℕ → FactMap → Part → HoldForm → Type 0
HoldAgrees c known need (hold.Const parts) = Unit {0}
HoldAgrees c known need (hold.Copy d) = d ≡ c → FactsAgree known need

-- The same where the form copies the hold cell c.
abbrev pub Agrees : ℕ → FactMap → Form → Part → Type 0
Agrees c known (form.Enum f) need = Unit {0}
Agrees c known (form.Int f) need = Unit {0}
Agrees c known (form.Hold f) need = HoldAgrees c known need f
Agrees c known (form.Nums added) need = Unit {0}
Agrees c known (form.Words added) need = Unit {0}

-- It is so of all forms.
abbrev pub AllAgree : ℕ → FactMap → List Form → List Part → Type 0
AllAgree c known forms needs =
    (d : ℕ) (f : Form) (need : Part) → slice_get forms d ≡ Some f → slice_get needs d ≡ Some need →
    Agrees c known f need

-- If the need is facts, they agree with what is needed of each form that copies the hold cell c.
abbrev pub NeedAgrees : ℕ → List Form → List Part → Part → Type 0
NeedAgrees c forms needs (part.Set need) = Unit {0}
NeedAgrees c forms needs (part.Span need) = Unit {0}
NeedAgrees c forms needs (part.Facts need) = AllAgree c need forms needs
NeedAgrees c forms needs part.Free = Unit {0}

-- If a hold form copies the hold cell c, what is needed of it agrees with what is needed of each
-- form that copies this cell.
abbrev pub CopyAgrees : ℕ → List Form → List Part → Part → HoldForm → Type 0
CopyAgrees c forms needs need (hold.Const parts) = Unit {0}
CopyAgrees c forms needs need (hold.Copy d) = d ≡ c → NeedAgrees c forms needs need

-- What is needed of a form that copies the hold cell c agrees with what is needed of the others.
abbrev pub OthersAgree : ℕ → List Form → List Part → Form → Part → Type 0
OthersAgree c forms needs (form.Enum f) need = Unit {0}
OthersAgree c forms needs (form.Int f) need = Unit {0}
OthersAgree c forms needs (form.Hold f) need = CopyAgrees c forms needs need f
OthersAgree c forms needs (form.Nums added) need = Unit {0}
OthersAgree c forms needs (form.Words added) need = Unit {0}

-- What is needed of any two forms that copy the hold cell c agrees.
abbrev pub NeedsAgree : ℕ → List Form → List Part → Type 0
NeedsAgree c forms needs =
    (d : ℕ) (f : Form) (need : Part) → slice_get forms d ≡ Some f → slice_get needs d ≡ Some need →
    OthersAgree c forms needs f need
