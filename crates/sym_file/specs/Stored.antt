-- What the program's types keep of every value, said of plain data: words are UTF-8, and numbers
-- and lengths have the bits of their types.
use Rattle.std.specs.Prelude.{ℕ, ◌<◌, ◌^◌, List, length, IsUtf8}
use Rattle.std.specs.List.{All}
use Rattle.sym_base.specs.declared.values.value.Key.{Key}
use Rattle.sym_base.specs.declared.values.value.Value.{Value}
use Rattle.sym_base.specs.declared.values.value.Value.TheVariants as value
use Rattle.sym_base.specs.declared.values.state.FaultKind.{FaultKind}
use Rattle.sym_base.specs.declared.values.state.FaultKind.TheVariants as fault
use Rattle.sym_enum.specs.declared.form.EnumForm.{EnumForm}
use Rattle.sym_enum.specs.declared.form.EnumForm.TheVariants as label
use Rattle.sym_int.specs.declared.form.IntForm.{IntForm}
use Rattle.sym_int.specs.declared.form.IntForm.TheVariants as number
use Rattle.sym_pred.specs.declared.form.HoldForm.{HoldForm}
use Rattle.sym_pred.specs.declared.form.HoldForm.TheVariants as hold
use Rattle.sym_pred.specs.declared.literal.Literal.{Literal}
use Rattle.sym_pred.specs.Literals.{literals}
use Rattle.sym_path.specs.declared.part.Part.{Part}
use Rattle.sym_path.specs.declared.part.Part.TheVariants as part
use Rattle.sym_path.specs.declared.form.Form.{Form}
use Rattle.sym_path.specs.declared.form.Form.TheVariants as form
use Rattle.sym_path.specs.declared.path.Path.{Path}
use Rattle.sym_run.specs.Chained.{Chained}
use Rattle.sym_path.specs.declared.path.PathEnd.{PathEnd}
use Rattle.sym_path.specs.declared.path.PathEnd.TheVariants.{Next, Ended}
use Rattle.sym_run.specs.declared.saved.Saved.{Saved}

-- A list whose length is written has items of which each is stored.
pub record AreStored {A : Type 0} (Is : A → Type 0) (items : List A) : Type 0 where
  pub many : length items < 2 ^ 64
  pub each : All Is items

pub record IsStoredText (bytes : List ℕ) : Type 0 where
  pub text : IsUtf8 bytes
  pub many : length bytes < 2 ^ 64

abbrev pub IsStoredValue : Value → Type 0
IsStoredValue (value.Num x) = Unit {0}
IsStoredValue (value.Label l) = l < 2 ^ 8
IsStoredValue (value.Word t) = IsStoredText t

pub record IsStoredLiteral (literal : Literal) : Type 0 where
  pub test : literal.test < 2 ^ 16
  pub args : All IsStoredValue literal.args

abbrev pub IsStoredPart : Part → Type 0
IsStoredPart (part.Set set) = Unit {0}
IsStoredPart (part.Span span) = Unit {0}
IsStoredPart (part.Facts known) = AreStored IsStoredLiteral (literals known)
IsStoredPart part.Free = Unit {0}

abbrev pub IsStoredNumber : IntForm → Type 0
IsStoredNumber (number.Const n) = Unit {0}
IsStoredNumber (number.Line line) = line.cell < 2 ^ 16

abbrev pub IsStoredLabelForm : EnumForm → Type 0
IsStoredLabelForm (label.Const l) = l < 2 ^ 8
IsStoredLabelForm (label.Copy c) = c < 2 ^ 16

abbrev pub IsStoredHoldForm : HoldForm → Type 0
IsStoredHoldForm (hold.Const parts) = All IsStoredValue parts
IsStoredHoldForm (hold.Copy c) = c < 2 ^ 16

abbrev pub IsStoredForm : Form → Type 0
IsStoredForm (form.Enum f) = IsStoredLabelForm f
IsStoredForm (form.Int f) = IsStoredNumber f
IsStoredForm (form.Hold f) = IsStoredHoldForm f
IsStoredForm (form.Nums added) = AreStored IsStoredNumber added
IsStoredForm (form.Words added) = AreStored IsStoredText added

abbrev pub IsStoredFault : FaultKind → ℕ → Type 0
IsStoredFault (fault.Over c) n = (c < 2 ^ 16) × (n < 2 ^ 64)
IsStoredFault fault.Arith n = n < 2 ^ 64

abbrev pub IsStoredEnd : PathEnd → Type 0
IsStoredEnd (Next forms) = All IsStoredForm forms
IsStoredEnd (Ended ended) = IsStoredFault ended.kind ended.no

pub record IsStoredPath (path : Path) : Type 0 where
  pub when : All IsStoredPart path.when
  pub end : IsStoredEnd path.end

abbrev pub IsStoredSegment : List Path → Type 0
IsStoredSegment paths = AreStored IsStoredPath paths

abbrev pub IsStoredChain : Chained → Type 0
IsStoredChain chain = AreStored IsStoredSegment chain.segments

pub record IsStoredGroup (group : Key × Chained) : Type 0 where
  pub key : All IsStoredValue group.0.values
  pub chain : IsStoredChain group.1

pub record IsStored (saved : Saved) : Type 0 where
  pub first : saved.first < 2 ^ 64
  pub next : saved.next < 2 ^ 64
  pub groups : AreStored IsStoredGroup saved.groups
