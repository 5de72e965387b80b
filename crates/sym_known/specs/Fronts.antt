-- States whose lists go on from older ones. A step never looks at a list, so it does to such a state
-- what it does to the state alone.
use Rattle.std.specs.Prelude.{List, [], ◌∷◌, ◌++◌, Some}
use Rattle.sym_base.specs.declared.values.state.Cell.{Cell}
use Rattle.sym_base.specs.declared.values.state.Cell.TheVariants.{Enum, Int, Hold, Nums, Words}
use Rattle.sym_base.specs.declared.values.state.State.{State}
use Rattle.sym_base.specs.declared.values.state.Outcome.{Outcome}
use Rattle.sym_base.specs.declared.values.state.Outcome.TheVariants.{Going, Ended}
use Rattle.sym_base.specs.States.{cell_nums, cell_words}

-- The second cell with the list of the first one before its own. A cell without a list stays.
abbrev pub in_front : Cell → Cell → Cell
in_front old (Enum label) = Enum label
in_front old (Int x) = Int x
in_front old (Hold parts) = Hold parts
in_front old (Nums xs) = Nums (cell_nums (Some old) ++ xs)
in_front old (Words ts) = Words (cell_words (Some old) ++ ts)

-- The same of each cell beside an older one. Where no older one is left, a cell stays.
abbrev pub with_fronts : List Cell → List Cell → List Cell
with_fronts [] cells = cells
with_fronts (old ∷ olds) [] = []
with_fronts (old ∷ olds) (c ∷ cells) = in_front old c ∷ with_fronts olds cells

-- The state whose lists go on from those of the older cells.
abbrev pub fronted : List Cell → State → State
fronted olds s = record { cells = with_fronts olds s.cells }

-- The same of a group that goes on; a fault stays.
abbrev pub outcome_fronted : List Cell → Outcome → Outcome
outcome_fronted olds (Going s) = Going (fronted olds s)
outcome_fronted olds (Ended fault) = Ended fault
