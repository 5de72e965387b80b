-- The paths so far have ended in turn.
use Rattle.sym_path.specs.Settling.{AreEndedInTurn}
use Rattle.sym_path.proofs.settled.ended_in_turn.Given as goal

abbrev pub invariant-paths : goal.invariant-paths
invariant-paths l = AreEndedInTurn l.paths l.index
