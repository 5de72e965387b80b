use Rattle.std.proofs.Common.{◌≡◌, Some, subst}
use Rattle.std.specs.Prelude.{OnOk, slice_get}
use Rattle.std.specs.Map.{keys_of}
use Rattle.sym_file.specs.PlacedTexts.{Placed}
use Rattle.sym_file.specs.Places.{placed}
use Rattle.sym_file.proofs.places.KeyPlaces.push_at.Goals as goal

pub returns : goal.returns
returns c = λ key.
    subst (λ (groups : Placed). slice_get (keys_of groups) c.args.index ≡ Some key → OnOk c.push_at.result (c.push_at.new.map.entries ≡ placed groups (key, c.args.place))) c.self.view_is
    (c.push_at.ensures.places key)
