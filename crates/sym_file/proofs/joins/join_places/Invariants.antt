-- The chains of the first places are joined.
use Rattle.sym_check.specs.Checking.CheckedScripts.{checked_plan}
use Rattle.sym_file.proofs.JoinedPlaces.{AreJoining}
use Rattle.sym_file.proofs.joins.join_places.Given as goal

abbrev pub invariant-places : goal.invariant-places
invariant-places l = AreJoining (checked_plan l.checked) l.limit l.spans l.key l.places l.at l.joined
