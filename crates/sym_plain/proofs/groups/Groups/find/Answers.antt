use Rattle.std.proofs.Common.{◌∙◌, ap₂, sym}
use Rattle.std.specs.Prelude.{slice_get}
use Rattle.sym_plain.proofs.Zipped.{item-get, lookup-at, values-are}
use Rattle.sym_plain.proofs.groups.Groups.find.Goals as goal

pub returns : goal.returns
returns c =
    item-get (λ x. x.now) c.deref.result.now c.place_of.result c.get.result c.get.ensures.lookup
    ∙ ap₂ slice_get (c.deref.ensures.value ∙ values-are c.self.inside.keys.keys c.self.inside.outcomes.items c.args.self.now c.self.view_is c.self.invariant.1) c.place_of.ensures.index
    ∙ sym (lookup-at c.args.key.now c.args.self.now)
