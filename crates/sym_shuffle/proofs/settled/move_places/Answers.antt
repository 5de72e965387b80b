use Rattle.std.proofs.Common.{arith, get_or}
use Rattle.std.proofs.lemmas.List.{get_or_default}
use Rattle.sym_shuffle.specs.Places.{moved_place}
use Rattle.sym_shuffle.proofs.NewPlaces.{moves_on}
use Rattle.sym_shuffle.proofs.settled.move_places.Goals as goal

pub places-preserved : goal.places-preserved
places-preserved c =
    moves_on (moved_place c.args.count c.args.moved.now) c.args.places.now c.places.places c.places.index (get_or c.places.places c.places.index 0) c.moved_place.result c.places-test.true c.places.invariant
    (get_or_default c.places.places c.places.index 0 _ (omega (arith, c.places-test.true, c.places.auto.places))) c.moved_place.ensures
