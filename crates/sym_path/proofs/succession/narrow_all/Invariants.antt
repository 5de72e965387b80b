-- What is left of the cells so far is in the place of their parts, and the forms are on it.
use Rattle.sym_path.proofs.FollowingNarrowed.{NarrowedBelow}
use Rattle.sym_path.proofs.succession.narrow_all.Given as goal

abbrev pub invariant-cells : goal.invariant-cells
invariant-cells l = NarrowedBelow l.needs l.initial.when l.initial.forms l.index l.when l.forms
