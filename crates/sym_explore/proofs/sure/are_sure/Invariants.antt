-- The forms so far are constants, or those of lists.
use Rattle.std.proofs.Common.{All, take}
use Rattle.sym_explore.specs.Sure.{IsSure}
use Rattle.sym_explore.proofs.sure.are_sure.Given as goal

abbrev pub invariant-cells : goal.invariant-cells
invariant-cells l = All IsSure (take l.form-index l.forms)
