use Rattle.std.proofs.Common.{◌∙◌, ap}
use Rattle.sym_check.specs.Rules.Scopes.{find}
use Rattle.sym_check.proofs.ScopePlaces.{found_none, found_past, found_some}
use Rattle.sym_check.proofs.elaborate.scope.found.Goals as goal

pub returns-in_err-place : goal.returns-in_err-place
returns-in_err-place c =
    rw c.from_residual.ensures
    (found_none c.scope.inside.entries.items c.args.name.now (c.in_err-place.ensures.value ∙ c.scope.invariant c.args.name.now) ∙ ap (λ s. find s c.args.name.now) c.scope.view_is)

pub returns-in_err-entry : goal.returns-in_err-entry
returns-in_err-entry c =
    rw c.from_residual-in_err-entry.ensures
    (found_past c.scope.inside.entries.items c.as_slice.result.now c.args.name.now c.in_ok-place.place.now c.as_slice.ensures.value (c.in_ok-place.ensures.value ∙ c.scope.invariant c.args.name.now) c.in_err-entry.ensures.lookup.3 ∙ ap (λ s. find s c.args.name.now) c.scope.view_is)

pub returns : goal.returns
returns c =
    found_some c.scope.inside.entries.items c.as_slice.result.now c.args.name.now c.in_ok-place.place.now c.in_ok-entry.entry.now c.as_slice.ensures.value (c.in_ok-place.ensures.value ∙ c.scope.invariant c.args.name.now) c.in_ok-entry.ensures.lookup.3.0 c.in_ok-entry.ensures.lookup.1 ∙ ap (λ s. find s c.args.name.now) c.scope.view_is
