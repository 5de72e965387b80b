use Rattle.std.proofs.Common.{◌≡◌, ◌∙◌, Some, ap, sym}
use Rattle.std.specs.Prelude.{slice_get}
use Rattle.std.specs.Map.Iter.{deref_pair}
use Rattle.std.specs.Option.{option_map}
use Rattle.sym_base.specs.declared.values.state.Outcome.{Outcome}
use Rattle.sym_base.specs.declared.values.value.Key.{Key}
use Rattle.sym_plain.proofs.Zipped.{item-get, zip-get, zip-no_key}
use Rattle.sym_plain.proofs.groups.Groups.at.Goals as goal

pub returns-in_err-get_index : goal.returns-in_err-get_index
returns-in_err-get_index c =
    rw (← c.self.view_is) (
    ap (option_map (deref_pair {K = Key} {X = Outcome})) c.from_residual.ensures
    ∙ sym (zip-no_key c.self.inside.keys.keys c.self.inside.outcomes.items c.args.index (sym c.in_err-get_index.ensures.key))
    )

pub returns : goal.returns
returns c =
    let vs = c.self.inside.outcomes.items in
    let there : slice_get vs c.args.index ≡ Some c.in_ok-get.field-0.now =
    sym (item-get (λ x. x.now) c.deref.result.now c.args.index (Some c.in_ok-get.field-0) c.in_ok-get.ensures.lookup ∙ ap (λ l. slice_get l c.args.index) c.deref.ensures.value) in
    rw (← c.self.view_is) (sym (zip-get c.self.inside.keys.keys vs c.args.index c.in_ok-get_index.field-0.now c.in_ok-get.field-0.now (sym c.in_ok-get_index.ensures.key) there))
