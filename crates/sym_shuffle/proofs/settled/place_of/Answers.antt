use Rattle.std.proofs.Common.{◌≡◌, ◌∙◌, ◌∷◌, ◌++◌, [], ap, length, sym, subst, ℕ, Some, slice_get}
use Rattle.std.specs.Map.{keys_of}
use Rattle.sym_base.specs.declared.values.state.Outcome.TheVariants.{Going}
use Rattle.sym_base.specs.declared.values.state.State.{State}
use Rattle.sym_check.specs.Checking.CheckedScripts.{checked_plan}
use Rattle.sym_shuffle.proofs.NewPlaces.{Pairs, begun_last, begun_there, last_place}
use Rattle.sym_shuffle.proofs.settled.place_of.Goals as goal

pub returns-in-Some-clause-groups : goal.returns-in-Some-clause-groups
returns-in-Some-clause-groups c = begun_there (checked_plan c.args.checked.now) c.args.key c.args.groups.now c.index_of.result c.in-Some.place c.in-Some.is c.index_of.ensures.found

pub returns-clause-groups : goal.returns-clause-groups
returns-clause-groups c =
    let p = checked_plan c.args.checked.now in
    let old = c.args.groups.now in
    c.in_ok-begin.ensures.ok
    ∙ ap (λ (s : State). old ++ (c.args.key, Going s) ∷ []) c.in_ok-initial.ensures
    ∙ begun_last p c.args.key old c.index_of.result c.in_default.is c.index_of.ensures.found

pub returns-clause-place : goal.returns-clause-place
returns-clause-place c =
    let old = c.args.groups.now in
    let at : slice_get (keys_of c.begin.new.self) (length old) ≡ Some c.args.key =
    ap (λ (g : Pairs). slice_get (keys_of g) (length old)) c.in_ok-begin.ensures.ok
    ∙ last_place old c.args.key (Going c.in_ok-initial.field-0) in
    subst (λ (n : ℕ). slice_get (keys_of c.begin.new.self) n ≡ Some c.args.key) (sym c.len-place.ensures.len) at
