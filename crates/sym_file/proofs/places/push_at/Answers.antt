use Rattle.std.proofs.Common.{◌≡◌, ◌∙◌, ◌∷◌, ◌++◌, [], List, ap}
use Rattle.std.proofs.lemmas.Result.{on_ok_weaker}
use Rattle.sym_plain.proofs.Pairs.{indexed-apart}
use Rattle.sym_plain.specs.Pairs.{put_by_index}
use Rattle.sym_file.specs.PlacedTexts.{Placed}
use Rattle.sym_file.specs.Places.{ChainPlace}
use Rattle.sym_file.proofs.KeyPlaces.{placed_there}
use Rattle.sym_file.proofs.Taking.{nothing_there}
use Rattle.sym_file.proofs.places.push_at.Goals as goal

pub returns-in-Some-clause-places : goal.returns-in-Some-clause-places
returns-in-Some-clause-places c = λ key at.
    let old : Placed = c.args.map.now.entries in
    let was : List ChainPlace = c.in-Some.places.now in
    on_ok_weaker c.push.result
    (λ is. ap (λ (places : List ChainPlace). put_by_index old c.args.index places) is ∙ placed_there key old c.args.index was c.args.place c.requires.distinct at c.in-Some.ensures.value)
    c.push.ensures

pub returns-in-Some-clause-distinct : goal.returns-in-Some-clause-distinct
returns-in-Some-clause-distinct c = indexed-apart c.args.map.now.entries c.args.index c.push.new.self c.requires.distinct

pub returns-in-None-clause-places : goal.returns-in-None-clause-places
returns-in-None-clause-places c = λ key at. absurd (nothing_there key c.args.map.now.entries c.args.index at c.in-None.ensures.value)
