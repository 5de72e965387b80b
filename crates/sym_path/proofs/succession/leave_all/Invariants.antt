-- What is left of the cells so far is in the place of their parts.
use Rattle.sym_path.proofs.FollowingLeft.{LeftBelow}
use Rattle.sym_path.proofs.succession.leave_all.Given as goal

abbrev pub invariant-cells : goal.invariant-cells
invariant-cells l = LeftBelow l.forms l.needs l.initial.when l.index l.when
