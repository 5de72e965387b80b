use Rattle.std.proofs.Common.{◌∙◌, ◌∷◌, [], List, ap}
use Rattle.sym_plain.specs.Pairs.{put}
use Rattle.sym_plain.proofs.Pairs.{insert-put}
use Rattle.sym_file.specs.PlacedTexts.{Placed}
use Rattle.sym_file.specs.Places.{ChainPlace}
use Rattle.sym_file.proofs.KeyPlaces.{placed_new}
use Rattle.sym_file.proofs.places.KeyPlaces.begin.Goals as goal

pub returns : goal.returns
returns c =
    c.in_ok-insert.ensures.entries
    ∙ insert-put c.self.inside.map.entries c.args.key c.in_ok-places.places c.self.invariant
    ∙ ap (λ (groups : Placed). put groups c.args.key c.in_ok-places.places) c.self.view_is
    ∙ ap (λ (places : List ChainPlace). put c.args.self.now c.args.key places) c.in_ok-places.ensures
    ∙ placed_new c.args.key c.args.self.now c.args.place c.requires.new
