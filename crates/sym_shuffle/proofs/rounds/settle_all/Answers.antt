use Rattle.std.proofs.Common.{◌≡◌, ◌∙◌, [], List, subst, sym}
use Rattle.std.proofs.lemmas.List.{nil_from_length}
use Rattle.std.specs.Vec.Iter.{into_iter_items}
use Rattle.sym_check.specs.Checking.CheckedScripts.{checked_plan}
use Rattle.sym_shuffle.specs.declared.batch.Batch.{Batch}
use Rattle.sym_shuffle.proofs.SettlingParts.{IsSettling, Results, all_settled, none_settled, settling_on, settling_stops}
use Rattle.sym_shuffle.proofs.rounds.settle_all.Goals as goal

pub dealt-init : goal.dealt-init
dealt-init c = λ marks chunks dealt.
    let p = checked_plan c.args.checked.now in
    let first = c.args.groups.now in
    subst (λ (rest : Results). IsSettling p marks chunks first first c.in_ok-batches.batches.items rest) (sym c.into_iter-one-iterator.ensures.into_iter_gives.0)
    (subst (λ (batches : List Batch). IsSettling p marks chunks first first batches c.args.dealt.items) (sym c.in_ok-batches.ensures.items) (none_settled p marks chunks first c.args.dealt.items dealt))

pub returns-in-Some-bad : goal.returns-in-Some-bad
returns-in-Some-bad c = λ marks chunks dealt.
    let p = checked_plan c.args.checked.now in
    settling_stops p marks chunks c.args.groups.now c.dealt.groups c.dealt.groups c.dealt.batches.items (into_iter_items c.dealt.one-iterator) c.in-Some.one c.in_ok-batch.field-0 (into_iter_items c.next.new.self)
    (c.dealt.invariant marks chunks dealt) c.in-Some.ensures.steps.0 c.in_ok-batch.was c.in-Some-bad.bad c.in-Some-bad.is

pub dealt-preserved : goal.dealt-preserved
dealt-preserved c = λ marks chunks dealt.
    let p = checked_plan c.args.checked.now in
    let first = c.args.groups.now in
    let rest = into_iter_items c.next.new.self in
    subst (λ (batches : List Batch). IsSettling p marks chunks first c.settle.new.groups batches rest) (sym {A = List Batch} c.in_ok-push.ensures.items)
    (settling_on p marks chunks first c.dealt.groups c.settle.new.groups c.dealt.batches.items (into_iter_items c.dealt.one-iterator) c.in-Some.one c.in_ok-batch.field-0 rest
    (c.dealt.invariant marks chunks dealt) c.in-Some.ensures.steps.0 c.in_ok-batch.was c.in_ok-settle.field-0 c.in_default.is
    c.in_ok-settle.ensures.groups
    (λ more records split is. c.in_ok-settle.ensures.holds marks first more records (sym c.len-count.ensures.len) split is))

pub returns : goal.returns
returns c = λ marks chunks dealt.
    let p = checked_plan c.args.checked.now in
    let first = c.args.groups.now in
    let none : into_iter_items c.dealt.one-iterator ≡ [] = nil_from_length _ (sym c.dealt.one-iterator.rest.ok.0 ∙ c.in-None.ensures.steps.0) in
    all_settled p marks chunks first c.dealt.groups c.dealt.batches.items (into_iter_items c.dealt.one-iterator) (c.dealt.invariant marks chunks dealt) none
