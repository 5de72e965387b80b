-- The forms so far are constants, or those of lists.
use Rattle.std.proofs.Common.{All, take}
use Rattle.sym_known.specs.Knowing.{IsKnown}
use Rattle.sym_known.proofs.known_cells.all_known.Given as goal

abbrev pub invariant-cells : goal.invariant-cells
invariant-cells l = All IsKnown (take l.form-index l.forms)
