use Rattle.std.proofs.Common.{◌≡◌, ◌∙◌, List, ap, subst, sym, Some}
use Rattle.std.specs.Prelude.{IfSome, slice_get}
use Rattle.std.specs.List.{IsDistinct, list_any}
use Rattle.std.proofs.lemmas.Map.Made.{is_some-lookup}
use Rattle.sym_base.specs.declared.values.value.Key.{Key}
use Rattle.sym_check.specs.Meaning.Groups.{is_key}
use Rattle.sym_plain.proofs.Pairs.{indexed-key}
use Rattle.sym_plain.proofs.Zipped.{keys-are}
use Rattle.sym_plain.proofs.groups.Groups.index_of.Goals as goal

pub returns-clause-index : goal.returns-clause-index
returns-clause-index c =
    let ks = c.self.inside.keys.keys in
    subst (λ (keys : List Key). IfSome c.get_index_of.result (λ i. slice_get keys i ≡ Some c.args.key.now))
    (keys-are ks c.self.inside.outcomes.items c.args.self.now c.self.view_is c.self.invariant.1)
    (indexed-key ks c.args.key.now c.get_index_of.result c.get_index_of.ensures.index)

pub returns-clause-found : goal.returns-clause-found
returns-clause-found c =
    let test = is_key c.args.key.now in
    c.get_index_of.ensures.found
    ∙ ap (list_any test) (keys-are c.self.inside.keys.keys c.self.inside.outcomes.items c.args.self.now c.self.view_is c.self.invariant.1)
    ∙ sym (is_some-lookup test c.args.self.now)

pub returns-clause-distinct : goal.returns-clause-distinct
returns-clause-distinct c =
    subst (IsDistinct is_key) (keys-are c.self.inside.keys.keys c.self.inside.outcomes.items c.args.self.now c.self.view_is c.self.invariant.1) c.self.invariant.0
