-- How the cells of a state are changed where they lie. Forms read the state as it was, so a draft of
-- each cell is made first, and the drafts are then put into the cells. Parts that a form writes over
-- those of its cell need no draft.
use Rattle.std.specs.Prelude.{◌≡◌, ◌<◌, ◌≤◌, ◌==◌, ℕ, Bool, true, false, List, Option, Some, if◌then◌else◌, length, slice_get, slice_set}
use Rattle.sym_base.specs.declared.values.value.Value.{Value}
use Rattle.sym_base.specs.declared.values.state.Cell.{Cell}
use Rattle.sym_base.specs.declared.values.state.Cell.TheVariants as cell
use Rattle.sym_base.specs.declared.values.state.State.{State}
use Rattle.sym_base.specs.States.{cell_parts}
use Rattle.sym_pred.specs.declared.form.HoldForm.TheVariants as hold
use Rattle.sym_path.specs.declared.form.Form.{Form}
use Rattle.sym_path.specs.declared.form.Form.TheVariants as form
use Rattle.sym_path.specs.Giving.{cell_at}

-- The form gives constant parts or those of its own cell, which has this number.
abbrev pub is_written_over : ℕ → Form → Bool
is_written_over c (form.Enum f) = false
is_written_over c (form.Int f) = false
is_written_over c (form.Hold (hold.Const parts)) = true
is_written_over c (form.Hold (hold.Copy own)) = own == c
is_written_over c (form.Nums added) = false
is_written_over c (form.Words added) = false

-- What is made of a cell before any cell is changed.
abbrev pub draft_at : ℕ → Form → State → Cell → Cell
draft_at c f s old = if is_written_over c f then cell.Enum 0 else cell_at f s old

-- The parts that are written over those of a cell: constant ones, or the same again.
abbrev pub parts_over : Form → Option Cell → List Value
parts_over (form.Enum f) old = cell_parts old
parts_over (form.Int f) old = cell_parts old
parts_over (form.Hold (hold.Const parts)) old = parts
parts_over (form.Hold (hold.Copy own)) old = cell_parts old
parts_over (form.Nums added) old = cell_parts old
parts_over (form.Words added) old = cell_parts old

-- What a cell holds once its draft is put into it, or its parts are written over.
abbrev pub finished : ℕ → Form → Cell → Option Cell → Cell
finished c f draft old =
    if is_written_over c f then cell.Hold (parts_over f old) else draft

-- The state in which the cell with this number is finished, by its draft or by parts written over.
abbrev pub finished_at : ℕ → Form → Cell → State → State
finished_at c f draft s = record {
  cells = slice_set s.cells c (finished c f draft (slice_get s.cells c));
}

-- The drafts of the first cells of a state, of which there are so many.
pub record AreDrafts (forms : List Form) (s : State) (count : ℕ) (drafts : List Cell) : Type 0 where
  pub long : length drafts ≡ count
  pub each : (c : ℕ) (f : Form) (x : Cell) → c < count → slice_get forms c ≡ Some f →
      slice_get s.cells c ≡ Some x → slice_get drafts c ≡ Some (draft_at c f s x)

-- The first cells are finished, of which there are so many; the others are as they were.
pub record AreFinished (forms : List Form) (drafts : List Cell) (old : State) (count : ℕ)
    (new : State) : Type 0 where
  pub long : length new.cells ≡ length old.cells
  pub each : (c : ℕ) (f : Form) (draft : Cell) → c < count → c < length old.cells →
      slice_get forms c ≡ Some f → slice_get drafts c ≡ Some draft →
      slice_get new.cells c ≡ Some (finished c f draft (slice_get old.cells c))
  pub others : (c : ℕ) → count ≤ c → slice_get new.cells c ≡ slice_get old.cells c
