use Rattle.std.proofs.Common.{◌≡◌, ◌∙◌, ◌<◌, ◌^◌, Bool, true, false, List, Option, Some, None, ap, arith, length, subst}
use Rattle.std.proofs.lemmas.Result.{err_from_is_err_and}
use Rattle.std.specs.Map.{keys_of, lookup}
use Rattle.sym_base.specs.declared.values.value.Key.{Key}
use Rattle.sym_check.specs.Checking.CheckedScripts.{checked_plan}
use Rattle.sym_check.specs.Meaning.Conditions.{test_truth}
use Rattle.sym_check.specs.Meaning.Groups.{is_key}
use Rattle.sym_check.specs.Plan.ScriptPlans.{ScriptPlan}
use Rattle.sym_plain.specs.Pairs.{standing}
use Rattle.sym_file.specs.Marks.{IsTakenOnce}
use Rattle.sym_file.specs.Reading.{Fails, group_at}
use Rattle.sym_file.specs.Totals.{led_through}
use Rattle.sym_file.proofs.Marks.{marks_many, no_marks}
use Rattle.sym_file.proofs.TakenTexts.{begins, index_small, is_done, is_gap, leads_on, named_twice, unlawful_group, unread}
use Rattle.sym_file.proofs.led_groups.lead_groups.Goals as goal

pub groups-init : goal.groups-init
groups-init c =
    let marks = c.in_ok-marks.marks.items in
    record {
      valid = c.requires.valid;
      leading =
          begins (checked_plan c.args.checked.now) c.args.head.now.first c.args.head.now.next c.args.head.now.count c.args.bytes.now c.args.groups.now marks
          (no_marks c.args.groups.now marks c.len.result (c.in_ok-marks.ensures.items_if_clones_equal (λ y h. h)) c.len.ensures.len);
    }

pub returns-in_err-key-clause-led : goal.returns-in_err-key-clause-led
returns-in_err-key-clause-led c =
    let p : ScriptPlan = checked_plan c.args.checked.now in
    let fails : Fails c.in_err-key.field-0.0 (group_at p c.groups.rest.now) =
    subst (λ (q : ScriptPlan). Fails c.in_err-key.field-0.0 (group_at q c.groups.rest.now)) c.plan-plan.ensures.same c.in_err-key.ensures in
    let e = err_from_is_err_and c.from_residual-in_err-key.result c.from_residual-in_err-key.ensures.1 in
    rw (e.1, e.2) (unread p c.args.head.now.first c.args.head.now.next c.args.head.now.count c.args.bytes.now c.args.groups.now c.groups.index c.groups.rest.now c.groups.groups c.groups.marks.items c.groups.invariant.leading c.groups-test.true c.in_err-key.field-0.0 fails)

pub returns-then-not-lawful-clause-led : goal.returns-then-not-lawful-clause-led
returns-then-not-lawful-clause-led c =
    let p : ScriptPlan = checked_plan c.args.checked.now in
    let one : group_at p c.groups.rest.now ≡ Some ((c.in_ok-key.key, c.in_ok-key.chain), c.in_ok-key.after.now) =
    subst (λ (q : ScriptPlan). group_at q c.groups.rest.now ≡ Some ((c.in_ok-key.key, c.in_ok-key.chain), c.in_ok-key.after.now)) c.plan-plan.ensures.same c.in_ok-key.ensures in
    unlawful_group p c.args.head.now.first c.args.head.now.next c.args.head.now.count c.args.bytes.now c.args.groups.now c.groups.index c.groups.rest.now c.groups.groups c.groups.marks.items c.groups.invariant.leading c.groups-test.true
    c.in_ok-key.key c.in_ok-key.chain c.in_ok-key.after.now one (λ l. let yes = c.is_lawful_group-lawful.ensures.1 l in let no = c.if-not-lawful.true in absurd (cc (yes, no)))

pub take_once-requires-clause-marks : goal.take_once-requires-clause-marks
take_once-requires-clause-marks c =
    let leading = c.groups.invariant.leading in
    marks_many (keys_of leading.groups) c.groups.groups c.groups.marks.items leading.marked

pub overflow_cast-result : goal.overflow_cast-result
overflow_cast-result c =
    let p : ScriptPlan = checked_plan c.args.checked.now in
    let marks = c.groups.marks in
    let few : length marks.items < 2 ^ 64 = omega (arith, marks.ok.0, marks.ok.1, marks.small) in
    let small : c.groups.index < 2 ^ 64 = index_small p c.args.head.now.first c.args.head.now.next c.args.head.now.count c.args.bytes.now c.args.groups.now c.groups.index c.groups.rest.now c.groups.groups c.groups.marks.items c.groups.invariant.leading few in
    omega (arith, small)

pub returns-in-Some-false-clause-led : goal.returns-in-Some-false-clause-led
returns-in-Some-false-clause-led c = λ groups end read.
    let p : ScriptPlan = checked_plan c.args.checked.now in
    let one : group_at p c.groups.rest.now ≡ Some ((c.in_ok-key.key, c.in_ok-key.chain), c.in_ok-key.after.now) =
    subst (λ (q : ScriptPlan). group_at q c.groups.rest.now ≡ Some ((c.in_ok-key.key, c.in_ok-key.chain), c.in_ok-key.after.now)) c.plan-plan.ensures.same c.in_ok-key.ensures in
    let seen : List Key = keys_of c.groups.invariant.leading.groups in
    let led = led_through (test_truth p.tests) c.in_ok-key.chain (standing p (lookup (is_key c.in_ok-key.key) c.groups.groups)) in
    let taken : IsTakenOnce seen c.in_ok-key.key c.groups.groups led (Some false) c.take_once.new.groups c.take_once.new.marks.items =
    subst (λ (r : Option Bool). IsTakenOnce seen c.in_ok-key.key c.groups.groups led r c.take_once.new.groups c.take_once.new.marks.items) (c.in-Some-false.is ∙ ap Some c.in-Some-false.field-0-test)
    (c.in_ok-take_once.ensures.taken seen c.groups.invariant.leading.marked) in
    is_gap p c.args.head.now.first c.args.head.now.next c.args.head.now.count c.args.bytes.now c.args.groups.now c.groups.index c.groups.rest.now c.groups.groups c.groups.marks.items c.groups.invariant.leading c.groups-test.true
    c.in_ok-key.key c.in_ok-key.chain c.in_ok-key.after.now one taken groups end read

pub returns-in-None-clause-led : goal.returns-in-None-clause-led
returns-in-None-clause-led c =
    let p : ScriptPlan = checked_plan c.args.checked.now in
    let one : group_at p c.groups.rest.now ≡ Some ((c.in_ok-key.key, c.in_ok-key.chain), c.in_ok-key.after.now) =
    subst (λ (q : ScriptPlan). group_at q c.groups.rest.now ≡ Some ((c.in_ok-key.key, c.in_ok-key.chain), c.in_ok-key.after.now)) c.plan-plan.ensures.same c.in_ok-key.ensures in
    let seen : List Key = keys_of c.groups.invariant.leading.groups in
    let led = led_through (test_truth p.tests) c.in_ok-key.chain (standing p (lookup (is_key c.in_ok-key.key) c.groups.groups)) in
    let taken : IsTakenOnce seen c.in_ok-key.key c.groups.groups led (None) c.take_once.new.groups c.take_once.new.marks.items =
    subst (λ (r : Option Bool). IsTakenOnce seen c.in_ok-key.key c.groups.groups led r c.take_once.new.groups c.take_once.new.marks.items) (c.in-None.is)
    (c.in_ok-take_once.ensures.taken seen c.groups.invariant.leading.marked) in
    named_twice p c.args.head.now.first c.args.head.now.next c.args.head.now.count c.args.bytes.now c.args.groups.now c.groups.index c.groups.rest.now c.groups.groups c.groups.marks.items c.groups.invariant.leading c.groups-test.true
    c.in_ok-key.key c.in_ok-key.chain c.in_ok-key.after.now one taken

pub groups-preserved : goal.groups-preserved
groups-preserved c =
    let p : ScriptPlan = checked_plan c.args.checked.now in
    let one : group_at p c.groups.rest.now ≡ Some ((c.in_ok-key.key, c.in_ok-key.chain), c.in_ok-key.after.now) =
    subst (λ (q : ScriptPlan). group_at q c.groups.rest.now ≡ Some ((c.in_ok-key.key, c.in_ok-key.chain), c.in_ok-key.after.now)) c.plan-plan.ensures.same c.in_ok-key.ensures in
    let seen : List Key = keys_of c.groups.invariant.leading.groups in
    let led = led_through (test_truth p.tests) c.in_ok-key.chain (standing p (lookup (is_key c.in_ok-key.key) c.groups.groups)) in
    let taken : IsTakenOnce seen c.in_ok-key.key c.groups.groups led (Some true) c.take_once.new.groups c.take_once.new.marks.items =
    subst (λ (r : Option Bool). IsTakenOnce seen c.in_ok-key.key c.groups.groups led r c.take_once.new.groups c.take_once.new.marks.items) (c.in-Some-true.is ∙ ap Some c.in-Some-true.field-0-test)
    (c.in_ok-take_once.ensures.taken seen c.groups.invariant.leading.marked) in
    record {
      valid = c.in_ok-take_once.ensures.valid;
      leading =
          leads_on p c.args.head.now.first c.args.head.now.next c.args.head.now.count c.args.bytes.now c.args.groups.now c.groups.index c.groups.rest.now c.groups.groups c.groups.marks.items c.groups.invariant.leading c.groups-test.true
          c.in_ok-key.key c.in_ok-key.chain c.in_ok-key.after.now one c.take_once.new.groups c.take_once.new.marks.items (c.is_lawful_group-lawful.ensures.0 c.if-not-lawful.false) taken;
    }

pub returns-clause-led : goal.returns-clause-led
returns-clause-led c =
    let p : ScriptPlan = checked_plan c.args.checked.now in
    is_done p c.args.head.now.first c.args.head.now.next c.args.head.now.count c.args.bytes.now c.args.groups.now c.groups.index c.groups.rest.now c.groups.groups c.groups.marks.items c.groups.invariant.leading c.groups-test.false
