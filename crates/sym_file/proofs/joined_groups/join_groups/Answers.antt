use Rattle.std.proofs.Common.{◌≡◌, Bool, true, false, List, Some, length, subst}
use Rattle.std.proofs.lemmas.Result.{err_from_is_err_and}
use Rattle.std.specs.Map.{keys_of}
use Rattle.sym_base.specs.declared.values.value.Key.{Key}
use Rattle.sym_check.specs.Checking.CheckedScripts.{checked_plan}
use Rattle.sym_check.specs.Plan.ScriptPlans.{ScriptPlan}
use Rattle.sym_file.specs.JoinedTexts.{IsJoinedOnce}
use Rattle.sym_file.specs.Reading.{Fails, group_at}
use Rattle.sym_file.proofs.JoinedTexts.{begins, goes_on, is_done, lawful_fits, named_twice, unlawful_group, unread}
use Rattle.sym_file.proofs.Marks.{marks_many, no_marks}
use Rattle.sym_file.proofs.joined_groups.join_groups.Goals as goal

pub groups-init : goal.groups-init
groups-init c =
    let marks = c.in_ok-marks.marks.items in
    begins (checked_plan c.args.joiner.now.checked.now) c.args.head.now.first c.args.head.now.next c.args.head.now.count c.args.joiner.now.limit c.args.bytes.now c.args.groups.now marks c.requires.fits c.requires.closed
    (no_marks c.args.groups.now marks c.len.result (c.in_ok-marks.ensures.items_if_clones_equal (λ y h. h)) c.len.ensures.len)

pub returns-in_err-key : goal.returns-in_err-key
returns-in_err-key c =
    let p : ScriptPlan = checked_plan c.args.joiner.now.checked.now in
    let fails : Fails c.in_err-key.field-0.0 (group_at p c.groups.rest.now) =
    subst (λ (q : ScriptPlan). Fails c.in_err-key.field-0.0 (group_at q c.groups.rest.now)) c.plan-plan.ensures.same c.in_err-key.ensures in
    let e = err_from_is_err_and c.from_residual-in_err-key.result c.from_residual-in_err-key.ensures.1 in
    rw (e.1, e.2) (unread p c.args.head.now.first c.args.head.now.next c.args.head.now.count c.args.joiner.now.limit c.args.bytes.now c.args.groups.now c.groups.counter c.groups.rest.now c.groups.groups c.groups.marks.items c.groups.invariant c.groups-test.true c.in_err-key.field-0.0 fails)

pub returns-then-not-lawful : goal.returns-then-not-lawful
returns-then-not-lawful c =
    let p : ScriptPlan = checked_plan c.args.joiner.now.checked.now in
    let one : group_at p c.groups.rest.now ≡ Some ((c.in_ok-key.key, c.in_ok-key.chain), c.in_ok-key.after.now) =
    subst (λ (q : ScriptPlan). group_at q c.groups.rest.now ≡ Some ((c.in_ok-key.key, c.in_ok-key.chain), c.in_ok-key.after.now)) c.plan-plan.ensures.same c.in_ok-key.ensures in
    unlawful_group p c.args.head.now.first c.args.head.now.next c.args.head.now.count c.args.joiner.now.limit c.args.bytes.now c.args.groups.now c.groups.counter c.groups.rest.now c.groups.groups c.groups.marks.items c.groups.invariant c.groups-test.true
    c.in_ok-key.key c.in_ok-key.chain c.in_ok-key.after.now one (λ l. let yes = c.is_lawful_group-lawful.ensures.1 l in let no = c.if-not-lawful.true in absurd (cc (yes, no)))

pub join_once-requires-clause-left : goal.join_once-requires-clause-left
join_once-requires-clause-left c = c.groups.invariant.joined.fits

pub join_once-requires-clause-closed_left : goal.join_once-requires-clause-closed_left
join_once-requires-clause-closed_left c = c.groups.invariant.joined.closed

pub join_once-requires-clause-right : goal.join_once-requires-clause-right
join_once-requires-clause-right c =
    lawful_fits (checked_plan c.args.joiner.now.checked.now) c.args.head.now.first c.args.head.now.next (c.in_ok-key.key, c.in_ok-key.chain) (c.is_lawful_group-lawful.ensures.0 c.if-not-lawful.false)

pub join_once-requires-clause-closed_right : goal.join_once-requires-clause-closed_right
join_once-requires-clause-closed_right c = (c.is_lawful_group-lawful.ensures.0 c.if-not-lawful.false).chain.closed

pub join_once-requires-clause-marks : goal.join_once-requires-clause-marks
join_once-requires-clause-marks c = marks_many (keys_of c.groups.invariant.groups) c.groups.groups c.groups.marks.items c.groups.invariant.marked

pub returns-then-not-new : goal.returns-then-not-new
returns-then-not-new c =
    let p : ScriptPlan = checked_plan c.args.joiner.now.checked.now in
    let one : group_at p c.groups.rest.now ≡ Some ((c.in_ok-key.key, c.in_ok-key.chain), c.in_ok-key.after.now) =
    subst (λ (q : ScriptPlan). group_at q c.groups.rest.now ≡ Some ((c.in_ok-key.key, c.in_ok-key.chain), c.in_ok-key.after.now)) c.plan-plan.ensures.same c.in_ok-key.ensures in
    let seen : List Key = keys_of c.groups.invariant.groups in
    let no : c.in_ok-new.new ≡ false = let t = c.if-not-new.true in cc t in
    let twice : IsJoinedOnce p c.args.joiner.now.limit seen c.in_ok-key.key c.in_ok-key.chain c.groups.groups false c.join_once.new.groups c.join_once.new.marks.items =
    subst (λ (b : Bool). IsJoinedOnce p c.args.joiner.now.limit seen c.in_ok-key.key c.in_ok-key.chain c.groups.groups b c.join_once.new.groups c.join_once.new.marks.items) no (c.in_ok-new.ensures seen c.groups.invariant.marked) in
    named_twice p c.args.head.now.first c.args.head.now.next c.args.head.now.count c.args.joiner.now.limit c.args.bytes.now c.args.groups.now c.groups.counter c.groups.rest.now c.groups.groups c.groups.marks.items c.groups.invariant c.groups-test.true
    c.in_ok-key.key c.in_ok-key.chain c.in_ok-key.after.now one twice

pub groups-preserved : goal.groups-preserved
groups-preserved c =
    let p : ScriptPlan = checked_plan c.args.joiner.now.checked.now in
    let one : group_at p c.groups.rest.now ≡ Some ((c.in_ok-key.key, c.in_ok-key.chain), c.in_ok-key.after.now) =
    subst (λ (q : ScriptPlan). group_at q c.groups.rest.now ≡ Some ((c.in_ok-key.key, c.in_ok-key.chain), c.in_ok-key.after.now)) c.plan-plan.ensures.same c.in_ok-key.ensures in
    let seen : List Key = keys_of c.groups.invariant.groups in
    let yes : c.in_ok-new.new ≡ true = let t = c.if-not-new.false in cc t in
    let once : IsJoinedOnce p c.args.joiner.now.limit seen c.in_ok-key.key c.in_ok-key.chain c.groups.groups true c.join_once.new.groups c.join_once.new.marks.items =
    subst (λ (b : Bool). IsJoinedOnce p c.args.joiner.now.limit seen c.in_ok-key.key c.in_ok-key.chain c.groups.groups b c.join_once.new.groups c.join_once.new.marks.items) yes (c.in_ok-new.ensures seen c.groups.invariant.marked) in
    goes_on p c.args.head.now.first c.args.head.now.next c.args.head.now.count c.args.joiner.now.limit c.args.bytes.now c.args.groups.now c.groups.counter c.groups.rest.now c.groups.groups c.groups.marks.items c.groups.invariant c.groups-test.true
    c.in_ok-key.key c.in_ok-key.chain c.in_ok-key.after.now one c.join_once.new.groups c.join_once.new.marks.items (c.is_lawful_group-lawful.ensures.0 c.if-not-lawful.false) once

pub returns : goal.returns
returns c =
    is_done (checked_plan c.args.joiner.now.checked.now) c.args.head.now.first c.args.head.now.next c.args.head.now.count c.args.joiner.now.limit c.args.bytes.now c.args.groups.now c.groups.counter c.groups.rest.now c.groups.groups c.groups.marks.items c.groups.invariant c.groups-test.false
