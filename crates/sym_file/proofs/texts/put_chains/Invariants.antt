-- The chains that were made so far are put to their keys.
use Rattle.std.specs.Vec.Iter.{into_iter_items}
use Rattle.sym_file.proofs.JoinedPlaces.{ArePut}
use Rattle.sym_file.proofs.texts.put_chains.Given as goal

abbrev pub invariant-chains : goal.invariant-chains
invariant-chains l = ArePut l.fn.groups l.fn.made.items l.yielded (into_iter_items l.chain-iterator) l.keys l.joined
