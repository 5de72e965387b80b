use Rattle.std.proofs.Common.{◌∙◌, sym}
use Rattle.sym_check.proofs.ScopePlaces.{place_taken, place_stays, at_place, not_at_place}
use Rattle.sym_check.proofs.elaborate.scope.forget.Goals as goal

pub returns-then-eq : goal.returns-then-eq
returns-then-eq c =
    place_taken c.args.places.now c.remove-place.new.self c.args.name.now c.args.place
    (sym c.get.ensures.value ∙ at_place c.get.result _ (sym c.eq.ensures ∙ c.if-eq.true)) c.remove-place.ensures.updates

pub returns-else-eq : goal.returns-else-eq
returns-else-eq c =
    place_stays c.args.places.now c.args.name.now c.args.place
    (λ found. not_at_place c.get.result _ (sym c.eq.ensures ∙ c.if-eq.false) (c.get.ensures.value ∙ found))
