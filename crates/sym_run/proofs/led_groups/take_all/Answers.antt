use Rattle.std.proofs.Common.{rules, ◌≡◌, ◌∙◌, [], ◌∷◌, List, Option, ℕ, subst, sym}
use Rattle.std.proofs.lemmas.List.{nil_from_length}
use Rattle.std.specs.Vec.Iter.{into_iter_items}
use Rattle.sym_check.specs.Checking.CheckedScripts.{checked_plan}
use Rattle.sym_run.specs.declared.led_groups.Taken.{Taken}
use Rattle.sym_run.proofs.TakenGroups.{IsAllOut, IsTakingAt, alike_same, taken_valid, taking_all, taking_next}
use Rattle.sym_run.proofs.led_groups.take_all.Goals as goal

pub groups-init : goal.groups-init
groups-init c = (
  c.args.chains.now,
  record {
    done = [];
    all = search rules;
    valid = c.requires.valid;
    alike = alike_same [] c.args.groups.now;
    each = search rules;
    found = search rules;
  },
)

pub groups-preserved : goal.groups-preserved
groups-preserved c =
    let p = checked_plan c.args.checked.now in
    let chains = c.args.chains.now in
    let first = c.args.groups.now in
    let taken = c.groups.taken.items in
    let place = c.in-Some.place in
    let places : List (Option ℕ) = into_iter_items c.next.new.self in
    let h : IsTakingAt p chains first c.groups.groups taken (place ∷ places) =
    subst (IsTakingAt p chains first c.groups.groups taken) c.in-Some.ensures.steps.0 c.groups.invariant in
    subst (λ (all : List Taken). IsTakingAt p chains first c.take_group.new.groups all places) (sym {A = List Taken} c.in_ok-push.ensures.items)
    (taking_next p chains first c.groups.groups c.take_group.new.groups taken c.in_ok-take_group.field-0 place places h
    c.len.ensures.distinct c.in_ok-take_group.ensures.valid c.in_ok-take_group.ensures.alike c.in_ok-take_group.ensures.taken)

out : (c : goal.After-drop-place-iterator-2) → IsAllOut (checked_plan c.args.checked.now) c.args.chains.now c.args.groups.now c.groups.groups c.groups.taken.items
out c =
    let p = checked_plan c.args.checked.now in
    let chains = c.args.chains.now in
    let first = c.args.groups.now in
    let none : into_iter_items c.groups.place-iterator ≡ [] = nil_from_length _ (sym c.groups.place-iterator.rest.ok.0 ∙ c.in-None.ensures.steps.0) in
    taking_all p chains first c.groups.groups c.groups.taken.items
    (subst (IsTakingAt p chains first c.groups.groups c.groups.taken.items) none c.groups.invariant)

pub returns-clause-valid : goal.returns-clause-valid
returns-clause-valid c = (out c).valid

pub returns-clause-alike : goal.returns-clause-alike
returns-clause-alike c = (out c).alike

pub returns-clause-taken : goal.returns-clause-taken
returns-clause-taken c = (out c).each

pub returns-clause-ready : goal.returns-clause-ready
returns-clause-ready c = taken_valid (checked_plan c.args.checked.now) c.args.groups.now c.args.chains.now c.groups.taken.items (out c).each
