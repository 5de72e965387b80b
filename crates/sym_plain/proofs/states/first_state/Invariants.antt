-- The cells made so far are the first ones.
use Rattle.std.proofs.Common.{◌≡◌, take, map}
use Rattle.sym_check.specs.Meaning.Updates.{first_cell}
use Rattle.sym_plain.proofs.states.first_state.Given as goal

abbrev pub invariant-cells : goal.invariant-cells
invariant-cells l = l.cells.items ≡ map first_cell (take l.cell-index l.cell-items)
