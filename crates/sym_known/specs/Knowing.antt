-- Paths after which the cells are known, whatever the state before them was; lists may have had any
-- elements before. What is known of their cells is a state.
use Rattle.std.specs.Prelude.{◌≡◌, ℤ, pos, List, [], map, None}
use Rattle.std.specs.List.{All}
use Rattle.sym_base.specs.declared.values.state.Cell.{Cell}
use Rattle.sym_base.specs.declared.values.state.Cell.TheVariants as cell
use Rattle.sym_base.specs.declared.values.state.State.{State}
use Rattle.sym_base.specs.declared.values.state.Outcome.{Outcome}
use Rattle.sym_base.specs.declared.values.state.Outcome.TheVariants.{Going}
use Rattle.sym_base.specs.declared.values.state.Outcome.TheVariants as outcome
use Rattle.sym_enum.specs.Labels.{IsConst}
use Rattle.sym_enum.specs.declared.form.EnumForm.{EnumForm}
use Rattle.sym_enum.specs.declared.form.EnumForm.TheVariants as label
use Rattle.sym_int.specs.Lines.{form_cell}
use Rattle.sym_int.specs.declared.form.IntForm.{IntForm}
use Rattle.sym_int.specs.declared.form.IntForm.TheVariants as number
use Rattle.sym_pred.specs.declared.form.HoldForm.{HoldForm}
use Rattle.sym_pred.specs.declared.form.HoldForm.TheVariants as hold
use Rattle.sym_path.specs.declared.form.Form.{Form}
use Rattle.sym_path.specs.declared.form.Form.TheVariants as form
use Rattle.sym_path.specs.declared.path.PathEnd.{PathEnd}
use Rattle.sym_path.specs.declared.path.PathEnd.TheVariants.{Next, Ended}
use Rattle.sym_path.specs.declared.path.Path.{Path}

-- The parts are known.
abbrev pub AreConst : HoldForm → Type 0
AreConst (hold.Const parts) = Unit {0}
AreConst (hold.Copy c) = ⊥

-- The form is a constant, or that of a list, whatever it adds.
abbrev pub IsKnown : Form → Type 0
IsKnown (form.Enum f) = IsConst f
IsKnown (form.Int f) = form_cell f ≡ None
IsKnown (form.Hold f) = AreConst f
IsKnown (form.Nums added) = Unit {0}
IsKnown (form.Words added) = Unit {0}

-- The path has ended, or its cells are known.
abbrev pub HasKnownCells : PathEnd → Type 0
HasKnownCells (Next forms) = All IsKnown forms
HasKnownCells (Ended fault) = Unit {0}

-- It is so of each of the paths.
abbrev pub AreKnown : List Path → Type 0
AreKnown paths = All (λ (path : Path). HasKnownCells path.end) paths

-- What is known of a cell by its form: a constant, or of a list that it is empty so far. Of a form
-- that isn't known it is 0, or no parts.
abbrev pub known_label : EnumForm → Cell
known_label (label.Const l) = cell.Enum l
known_label (label.Copy c) = cell.Enum 0

abbrev pub known_number : IntForm → Cell
known_number (number.Const n) = cell.Int n.value
known_number (number.Line line) = cell.Int (pos 0)

abbrev pub known_parts : HoldForm → Cell
known_parts (hold.Const parts) = cell.Hold parts
known_parts (hold.Copy c) = cell.Hold []

abbrev pub known_cell : Form → Cell
known_cell (form.Enum f) = known_label f
known_cell (form.Int f) = known_number f
known_cell (form.Hold f) = known_parts f
known_cell (form.Nums added) = cell.Nums []
known_cell (form.Words added) = cell.Words []

-- The state of the known cells.
abbrev pub known_state : List Form → State
known_state forms = record { cells = map known_cell forms }

-- How a group stands of which a path knows the cells.
abbrev pub known_outcome : PathEnd → Outcome
known_outcome (Next forms) = Going (known_state forms)
known_outcome (Ended fault) = outcome.Ended fault
