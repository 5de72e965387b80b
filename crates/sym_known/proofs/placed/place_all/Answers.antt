use Rattle.std.proofs.Common.{refl}
use Rattle.sym_known.proofs.KnownCells.{placed_push}
use Rattle.sym_known.proofs.placed.place_all.Goals as goal

pub paths-preserved : goal.paths-preserved
paths-preserved c =
    placed_push c.paths.outcomes.items c.place_of.new.outcomes.items c.paths.yielded c.paths.placed.items c.push.new.self.items c.in-Some.path
    (record { path = c.in-Some.path; place = c.in_ok-place.place }) c.in_ok-place.ensures.kept refl c.in_ok-place.ensures.place c.in_ok-push.ensures.items c.paths.invariant
