-- What paths make of the states that they admit. Paths with a constraint and a transfer are those
-- of the SYMPLE paper (SOSP 2015).
use Rattle.std.specs.Prelude.{◌≡◌, ◌↔◌, ℕ, ℤ, List, [], ◌∷◌, ◌++◌, map, if◌then◌else◌, Some, slice_get}
use Rattle.std.specs.List.{All, Any}
use Rattle.sym_base.specs.Limits.{IsNumber}
use Rattle.sym_base.specs.declared.values.state.Cell.{Cell}
use Rattle.sym_base.specs.declared.values.state.Cell.TheVariants as cell
use Rattle.sym_base.specs.declared.values.state.State.{State}
use Rattle.sym_base.specs.declared.values.state.Outcome.{Outcome}
use Rattle.sym_base.specs.declared.values.state.Outcome.TheVariants.{Going}
use Rattle.sym_base.specs.declared.values.state.Outcome.TheVariants as outcome
use Rattle.sym_base.specs.States.{cell_nums, cell_words}
use Rattle.sym_enum.specs.Labels.{label_value}
use Rattle.sym_int.specs.Lines.{form_value}
use Rattle.sym_int.specs.declared.form.IntForm.{IntForm}
use Rattle.sym_pred.specs.HoldForms.{parts_value}
use Rattle.sym_base.specs.Tests.{Truth}
use Rattle.sym_path.specs.declared.form.Form.{Form}
use Rattle.sym_path.specs.declared.form.Form.TheVariants as form
use Rattle.sym_path.specs.declared.path.PathEnd.{PathEnd}
use Rattle.sym_path.specs.declared.path.PathEnd.TheVariants.{Next, Ended}
use Rattle.sym_path.specs.declared.path.Path.{Path}
use Rattle.sym_path.specs.Admitting.{Admits, admits}

-- The old list of a cell with the added elements' values after it.
abbrev pub nums_after : List IntForm → State → Cell → List ℤ
nums_after added s old = cell_nums (Some old) ++ map (λ f. form_value f s) added

-- The old list of a cell with the added words after it.
abbrev pub words_after : List (List ℕ) → Cell → List (List ℕ)
words_after added old = cell_words (Some old) ++ added

-- What a cell holds by its form at a state, in which it holds `old`: a constant, the label, number
-- or parts that the form takes from the state, or a list with elements added.
abbrev pub cell_at : Form → State → Cell → Cell
cell_at (form.Enum f) s old = cell.Enum (label_value f s)
cell_at (form.Int f) s old = cell.Int (form_value f s)
cell_at (form.Hold f) s old = cell.Hold (parts_value f s)
cell_at (form.Nums added) s old = cell.Nums (nums_after added s old)
cell_at (form.Words added) s old = cell.Words (words_after added old)

-- The numbers that a form needs to be numbers of a script are so at the state.
abbrev pub HasNumbers : State → Form → Type 0
HasNumbers s (form.Enum f) = Unit {0}
HasNumbers s (form.Int f) = IsNumber (form_value f s)
HasNumbers s (form.Hold f) = Unit {0}
HasNumbers s (form.Nums added) = All (λ f. IsNumber (form_value f s)) added
HasNumbers s (form.Words added) = Unit {0}

-- What the cells hold by their forms.
abbrev pub cells_at : List Form → State → List Cell → List Cell
cells_at [] s cells = []
cells_at (f ∷ forms) s [] = []
cells_at (f ∷ forms) s (c ∷ cells) = cell_at f s c ∷ cells_at forms s cells

-- The state in which each cell holds what its form gives at the old state.
abbrev pub state_at : List Form → State → State
state_at forms s = record { cells = cells_at forms s s.cells }

-- What a path makes of a state that it admits.
abbrev pub end_at : PathEnd → State → Outcome
end_at (Next forms) s = Going (state_at forms s)
end_at (Ended fault) s = outcome.Ended fault

-- What a path gives at a state: one outcome where it admits the state, else none.
abbrev pub given : Truth → Path → State → List Outcome
given truth p s = if admits truth p.when s.cells then end_at p.end s ∷ [] else []

-- What those of the paths give that admit the state, in order.
abbrev pub outcomes : Truth → List Path → State → List Outcome
outcomes truth [] s = []
outcomes truth (p ∷ paths) s = given truth p s ++ outcomes truth paths s

-- One of the paths admits the state and gives this outcome. Others may admit it too.
abbrev pub Gives : Truth → List Path → State → Outcome → Type 0
Gives truth paths s o =
    Any (λ (path : Path). Admits truth path.when s × (end_at path.end s ≡ o)) paths

-- Two lists of paths give the same outcomes at the state, and so one admits it where the other does.
abbrev pub AgreeAt : Truth → List Path → List Path → State → Type 0
AgreeAt truth paths others s = (o : Outcome) → Gives truth paths s o ↔ Gives truth others s o

-- One of the paths admits the state and gives this outcome, and no other admits it.
pub record IsOnlyOutcome (truth : Truth) (paths : List Path) (s : State)
    (o : Outcome) : Type 0 where
  pub index : ℕ
  pub path : Path
  pub is : slice_get paths index ≡ Some path
  pub admitted : Admits truth path.when s
  pub gives : end_at path.end s ≡ o
  pub no_other : (i : ℕ) (other : Path) → slice_get paths i ≡ Some other →
      Admits truth other.when s → i ≡ index
