-- The forms so far are those of their cells.
use Rattle.std.proofs.Common.{length}
use Rattle.sym_known.proofs.Closed.{FormsSoFar}
use Rattle.sym_known.proofs.plain_paths.forms_of.Given as goal

abbrev pub invariant-cells : goal.invariant-cells
invariant-cells l = FormsSoFar l.fn.forms l.cells (length l.yielded) l.closed.items
