use Rattle.std.proofs.Common.{◌≡◌, ◌∙◌, ℕ, Option, Some, sym, subst}
use Rattle.std.proofs.lemmas.Result.{err_from_is_err_and}
use Rattle.std.specs.Cmp.Lexicographic.{bytes_decides}
use Rattle.sym_check.specs.Checking.CheckedScripts.{checked_plan}
use Rattle.sym_check.specs.Plan.ScriptPlans.{ScriptPlan}
use Rattle.sym_file.specs.Reading.{head_at}
use Rattle.sym_file.specs.TakenTexts.{GroupsLead}
use Rattle.sym_file.proofs.TakenTexts.{gap_led, no_end, no_groups, no_head, not_begun, whole_led}
use Rattle.sym_file.proofs.led_groups.lead_body.Goals as goal

pub returns-in_err-first-clause-led : goal.returns-in_err-first-clause-led
returns-in_err-first-clause-led c =
    let p : ScriptPlan = checked_plan c.args.checked.now in
    let e = err_from_is_err_and c.from_residual.result c.from_residual.ensures.1 in
    rw (e.1, e.2) (no_head p c.args.bytes.now c.in_err-first.field-0.0 c.args.wanted c.in_err-first.ensures)

pub returns-then-not-follows-clause-led : goal.returns-then-not-follows-clause-led
returns-then-not-follows-clause-led c =
    let p : ScriptPlan = checked_plan c.args.checked.now in
    let head : head_at c.args.bytes.now ≡ Some ((c.in_ok-first.first, c.in_ok-first.next, c.in_ok-first.count), c.in_ok-first.rest.now) = c.in_ok-first.ensures in
    not_begun p c.args.bytes.now c.in_ok-first.first c.in_ok-first.next c.in_ok-first.count c.in_ok-first.rest.now head c.args.wanted (λ h. let yes = c.begins-follows.ensures.1 h in let no = c.if-not-follows.true in absurd (cc (yes, no)))

pub returns-in_err-gap-clause-led : goal.returns-in_err-gap-clause-led
returns-in_err-gap-clause-led c =
    let p : ScriptPlan = checked_plan c.args.checked.now in
    let head : head_at c.args.bytes.now ≡ Some ((c.in_ok-first.first, c.in_ok-first.next, c.in_ok-first.count), c.in_ok-first.rest.now) = c.in_ok-first.ensures in
    let e = err_from_is_err_and c.from_residual-in_err-gap.result c.from_residual-in_err-gap.ensures.1 in
    rw (e.1, e.2) (no_groups p c.args.bytes.now c.in_ok-first.first c.in_ok-first.next c.in_ok-first.count c.in_ok-first.rest.now head c.args.wanted c.args.groups.now c.args.groups.now c.in_err-gap.field-0.0 c.in_err-gap.ensures.led)

pub returns-in-Some-clause-led : goal.returns-in-Some-clause-led
returns-in-Some-clause-led c =
    let p : ScriptPlan = checked_plan c.args.checked.now in
    let head : head_at c.args.bytes.now ≡ Some ((c.in_ok-first.first, c.in_ok-first.next, c.in_ok-first.count), c.in_ok-first.rest.now) = c.in_ok-first.ensures in
    gap_led p c.args.bytes.now c.in_ok-first.first c.in_ok-first.next c.in_ok-first.count c.in_ok-first.rest.now head c.args.wanted c.args.groups.now c.lead_groups.new.groups c.in-Some.group (c.begins-follows.ensures.0 c.if-not-follows.false).0
    (subst (λ (g : Option ℕ). GroupsLead p c.in_ok-first.first c.in_ok-first.next c.in_ok-first.count c.in_ok-first.rest.now c.args.groups.now c.lead_groups.new.groups g c.in_ok-gap.rest.now) c.in-Some.is c.in_ok-gap.ensures.led)

pub returns-then-not-ended-clause-led : goal.returns-then-not-ended-clause-led
returns-then-not-ended-clause-led c =
    let p : ScriptPlan = checked_plan c.args.checked.now in
    let head : head_at c.args.bytes.now ≡ Some ((c.in_ok-first.first, c.in_ok-first.next, c.in_ok-first.count), c.in_ok-first.rest.now) = c.in_ok-first.ensures in
    no_end p c.args.bytes.now c.in_ok-first.first c.in_ok-first.next c.in_ok-first.count c.in_ok-first.rest.now head c.args.wanted c.args.groups.now c.lead_groups.new.groups c.in_ok-gap.rest.now
    (subst (λ (g : Option ℕ). GroupsLead p c.in_ok-first.first c.in_ok-first.next c.in_ok-first.count c.in_ok-first.rest.now c.args.groups.now c.lead_groups.new.groups g c.in_ok-gap.rest.now) c.in-None.is c.in_ok-gap.ensures.led)
    (λ e. let yes = (bytes_decides c.in_ok-gap.rest.now c.as_slice.result.now).1 (e ∙ sym c.as_slice.ensures) in let no = sym c.eq-ended.ensures ∙ c.if-not-ended.true in absurd (cc (yes, no)))

pub returns-else-not-ended-clause-led : goal.returns-else-not-ended-clause-led
returns-else-not-ended-clause-led c =
    let p : ScriptPlan = checked_plan c.args.checked.now in
    let head : head_at c.args.bytes.now ≡ Some ((c.in_ok-first.first, c.in_ok-first.next, c.in_ok-first.count), c.in_ok-first.rest.now) = c.in_ok-first.ensures in
    let begun = c.begins-follows.ensures.0 c.if-not-follows.false in
    whole_led p c.args.bytes.now c.in_ok-first.first c.in_ok-first.next c.in_ok-first.count c.in_ok-first.rest.now head c.args.wanted c.args.groups.now c.lead_groups.new.groups c.in_ok-gap.rest.now
    (subst (λ (g : Option ℕ). GroupsLead p c.in_ok-first.first c.in_ok-first.next c.in_ok-first.count c.in_ok-first.rest.now c.args.groups.now c.lead_groups.new.groups g c.in_ok-gap.rest.now) c.in-None.is c.in_ok-gap.ensures.led)
    ((bytes_decides c.in_ok-gap.rest.now c.as_slice.result.now).0 (sym c.eq-ended.ensures ∙ c.if-not-ended.false) ∙ c.as_slice.ensures) begun.0 begun.1 begun.2
