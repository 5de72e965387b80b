use Rattle.std.proofs.Common.{◌≡◌, Some, subst}
use Rattle.std.specs.Prelude.{IfSome, slice_get}
use Rattle.std.specs.Map.{keys_of}
use Rattle.sym_plain.proofs.Pairs.{indexed-key}
use Rattle.sym_file.specs.PlacedTexts.{Placed}
use Rattle.sym_file.proofs.places.KeyPlaces.index_of.Goals as goal

pub returns-clause-index : goal.returns-clause-index
returns-clause-index c =
    subst (λ (groups : Placed). IfSome c.get_index_of.result (λ i. slice_get (keys_of groups) i ≡ Some c.args.key.now)) c.self.view_is
    (indexed-key (keys_of c.self.inside.map.entries) c.args.key.now c.get_index_of.result c.get_index_of.ensures.index)
