use Rattle.std.proofs.Common.{◌∙◌, ap, sym, is_some}
use Rattle.std.specs.BTreeMap.{get_by_text}
use Rattle.std.specs.String.{string_bytes}
use Rattle.sym_check.proofs.ScopePlaces.{placed, placed_earlier, no_place}
use Rattle.sym_check.proofs.elaborate.scope.add.Goals as goal

pub returns-then-contains_key-clause-ok : goal.returns-then-contains_key-clause-ok
returns-then-contains_key-clause-ok c = λ s e count name.
    placed_earlier c.args.places.now _ (sym c.contains_key.ensures ∙ c.if-contains_key.true) s e (name ∙ sym c.as_str.ensures.value)

pub returns-clause-ok : goal.returns-clause-ok
returns-clause-ok c =
    let name = string_bytes c.args.name in
    let new = ap (λ x. is_some (get_by_text c.args.places.now x)) (sym c.as_str.ensures.value) ∙ sym c.contains_key.ensures ∙ c.if-contains_key.false in
    placed c.args.places.now c.insert.new.self name c.args.place (no_place (get_by_text c.args.places.now name) new) c.in_ok-_older.ensures.updates
