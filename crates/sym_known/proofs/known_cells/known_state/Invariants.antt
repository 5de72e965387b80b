-- What is known by the forms so far.
use Rattle.std.proofs.Common.{◌≡◌, map, take}
use Rattle.sym_known.specs.Knowing.{known_cell}
use Rattle.sym_known.proofs.known_cells.known_state.Given as goal

abbrev pub invariant-cells : goal.invariant-cells
invariant-cells l = l.cells.items ≡ map known_cell (take l.index l.forms)
