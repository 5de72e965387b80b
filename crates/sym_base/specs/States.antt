-- States as lists of cells, and what their cells hold.
use Rattle.std.specs.Prelude.{◌≡◌, ℕ, ℤ, pos, List, [], ◌∷◌, ◌++◌, Option, Some, None, slice_get, slice_set}
use Rattle.sym_base.specs.declared.values.value.Value.{Value}
use Rattle.sym_base.specs.declared.values.state.Cell.{Cell}
use Rattle.sym_base.specs.declared.values.state.Cell.TheVariants.{Enum, Int, Hold, Nums, Words}
use Rattle.sym_base.specs.declared.values.state.State.{State}

-- The cell with this number is an integer cell that holds x.
pub record HoldsInt (state : State) (cell : ℕ) (x : ℤ) : Type 0 where
  pub held : slice_get state.cells cell ≡ Some (Int x)

-- The label of an enum cell; 0 of any other cell, and of none.
abbrev pub cell_label : Option Cell → ℕ
cell_label None = 0
cell_label (Some (Enum label)) = label
cell_label (Some (Int x)) = 0
cell_label (Some (Hold parts)) = 0
cell_label (Some (Nums xs)) = 0
cell_label (Some (Words ts)) = 0

-- The number of an integer cell; 0 of any other cell, and of none.
abbrev pub cell_number : Option Cell → ℤ
cell_number None = pos 0
cell_number (Some (Enum label)) = pos 0
cell_number (Some (Int x)) = x
cell_number (Some (Hold parts)) = pos 0
cell_number (Some (Nums xs)) = pos 0
cell_number (Some (Words ts)) = pos 0

-- The parts of a hold cell; no parts of any other cell, and of none.
abbrev pub cell_parts : Option Cell → List Value
cell_parts None = []
cell_parts (Some (Enum label)) = []
cell_parts (Some (Int x)) = []
cell_parts (Some (Hold parts)) = parts
cell_parts (Some (Nums xs)) = []
cell_parts (Some (Words ts)) = []

-- The numbers of a cell with numbers; none of any other cell, and of no cell.
abbrev pub cell_nums : Option Cell → List ℤ
cell_nums None = []
cell_nums (Some (Enum label)) = []
cell_nums (Some (Int x)) = []
cell_nums (Some (Hold parts)) = []
cell_nums (Some (Nums xs)) = xs
cell_nums (Some (Words ts)) = []

-- The words of a cell with words; none of any other cell, and of no cell.
abbrev pub cell_words : Option Cell → List (List ℕ)
cell_words None = []
cell_words (Some (Enum label)) = []
cell_words (Some (Int x)) = []
cell_words (Some (Hold parts)) = []
cell_words (Some (Nums xs)) = []
cell_words (Some (Words ts)) = ts

-- The label that the cell with this number holds.
abbrev pub label_at : State → ℕ → ℕ
label_at state cell = cell_label (slice_get state.cells cell)

-- The number that the cell with this number holds.
abbrev pub number_at : State → ℕ → ℤ
number_at state cell = cell_number (slice_get state.cells cell)

-- The parts that the cell with this number holds.
abbrev pub parts_at : State → ℕ → List Value
parts_at state cell = cell_parts (slice_get state.cells cell)

-- The numbers that the cell with this number holds.
abbrev pub nums_at : State → ℕ → List ℤ
nums_at state cell = cell_nums (slice_get state.cells cell)

-- The words that the cell with this number holds.
abbrev pub words_at : State → ℕ → List (List ℕ)
words_at state cell = cell_words (slice_get state.cells cell)

-- The state in which the cell with this number is this one, all others being as before.
abbrev pub with_cell : State → ℕ → Cell → State
with_cell state cell content = record state { cells = slice_set state.cells cell content }

-- The state in which the cell with this number holds x instead, all other cells being as before.
abbrev pub with_int : State → ℕ → ℤ → State
with_int state cell x = with_cell state cell (Int x)

-- The state in which the cell with this number has one number more, or one word more.
abbrev pub with_num : State → ℕ → ℤ → State
with_num state cell x = with_cell state cell (Nums (nums_at state cell ++ x ∷ []))

abbrev pub with_word : State → ℕ → List ℕ → State
with_word state cell t = with_cell state cell (Words (words_at state cell ++ t ∷ []))
