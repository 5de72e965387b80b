-- Paths into which known ones turn back.
use Rattle.std.specs.Prelude.{◌≡◌, ℕ, ℤ, List, [], ◌∷◌, ◌++◌, length}
use Rattle.std.specs.List.{All, AllZip}
use Rattle.sym_base.specs.Limits.{IsNumber}
use Rattle.sym_base.specs.declared.values.state.Cell.{Cell}
use Rattle.sym_base.specs.declared.values.state.Cell.TheVariants as cell
use Rattle.sym_base.specs.declared.values.state.Outcome.{Outcome}
use Rattle.sym_base.specs.declared.values.state.Outcome.TheVariants.{Going}
use Rattle.sym_base.specs.declared.values.state.Outcome.TheVariants as outcome
use Rattle.sym_enum.specs.declared.form.EnumForm.TheVariants as label
use Rattle.sym_int.specs.Elements.{IsConstant}
use Rattle.sym_int.specs.declared.form.IntForm.{IntForm}
use Rattle.sym_pred.specs.declared.form.HoldForm.TheVariants as hold
use Rattle.sym_path.specs.Kinds.{IsIntForm, IsNumsForm}
use Rattle.sym_path.specs.declared.form.Form.{Form}
use Rattle.sym_path.specs.declared.form.Form.TheVariants as form
use Rattle.sym_path.specs.declared.path.PathEnd.{PathEnd}
use Rattle.sym_path.specs.declared.path.PathEnd.TheVariants.{Next, Ended}
use Rattle.sym_path.specs.declared.path.Path.{Path}
use Rattle.sym_known.specs.Holding.{KnownPath}

-- The numbers that a form adds, and the words.
abbrev pub added_nums : Form → List IntForm
added_nums (form.Enum f) = []
added_nums (form.Int f) = []
added_nums (form.Hold f) = []
added_nums (form.Nums added) = added
added_nums (form.Words added) = []

abbrev pub added_words : Form → List (List ℕ)
added_words (form.Enum f) = []
added_words (form.Int f) = []
added_words (form.Hold f) = []
added_words (form.Nums added) = []
added_words (form.Words added) = added

-- The second numbers are the first ones and then these constants.
pub record IsLonger (added : List IntForm) (xs : List ℤ) (more : List IntForm) : Type 0 where
  pub tail : List IntForm
  pub is : more ≡ added ++ tail
  pub constants : AllZip IsConstant xs tail

-- The form of a cell that holds this now, and began with what is known by the first form: a
-- constant, or what the first form adds to a list and then these elements.
abbrev pub IsFormOf : Form → Cell → Form → Type 0
IsFormOf f (cell.Enum l) g = g ≡ form.Enum (label.Const l)
IsFormOf f (cell.Int x) g = IsIntForm (IsConstant x) g
IsFormOf f (cell.Hold parts) g = g ≡ form.Hold (hold.Const parts)
IsFormOf f (cell.Nums xs) g = IsNumsForm (IsLonger (added_nums f) xs) g
IsFormOf f (cell.Words ts) g = g ≡ form.Words (added_words f ++ ts)

-- One such form for each form and cell.
abbrev pub AreFormsOf : List Form → List Cell → List Form → Type 0
AreFormsOf [] [] [] = Unit {0}
AreFormsOf [] [] (g ∷ gs) = ⊥
AreFormsOf [] (c ∷ cells) gs = ⊥
AreFormsOf (f ∷ forms) [] gs = ⊥
AreFormsOf (f ∷ forms) (c ∷ cells) [] = ⊥
AreFormsOf (f ∷ forms) (c ∷ cells) (g ∷ gs) = IsFormOf f c g × AreFormsOf forms cells gs

-- The forms of a path; none after a fault.
abbrev pub forms_of : PathEnd → List Form
forms_of (Next forms) = forms
forms_of (Ended fault) = []

-- The end of a path whose group stands like this now: its fault, or the forms of its cells.
abbrev pub IsEndOf : PathEnd → Outcome → PathEnd → Type 0
IsEndOf old (Going s) (Next gs) = AreFormsOf (forms_of old) s.cells gs
IsEndOf old (Going s) (Ended fault) = ⊥
IsEndOf old (outcome.Ended fault) end = end ≡ Ended fault

-- The path into which a known one turns back.
pub record IsClosed (known : KnownPath) (path : Path) : Type 0 where
  pub when : path.when ≡ known.path.when
  pub end : IsEndOf known.path.end known.outcome path.end

-- The numbers of a cell are those of a script.
abbrev pub HasScriptNumbers : Cell → Type 0
HasScriptNumbers (cell.Enum l) = Unit {0}
HasScriptNumbers (cell.Int x) = IsNumber x
HasScriptNumbers (cell.Hold parts) = Unit {0}
HasScriptNumbers (cell.Nums xs) = All IsNumber xs
HasScriptNumbers (cell.Words ts) = Unit {0}

-- A group that goes on has so many cells, and their numbers are those of a script.
abbrev pub CanClose : ℕ → Outcome → Type 0
CanClose count (Going s) = (count ≡ length s.cells) × All HasScriptNumbers s.cells
CanClose count (outcome.Ended fault) = Unit {0}

-- The same of a known path, with one cell for each form.
abbrev pub CanBeClosed : KnownPath → Type 0
CanBeClosed known = CanClose (length (forms_of known.path.end)) known.outcome
