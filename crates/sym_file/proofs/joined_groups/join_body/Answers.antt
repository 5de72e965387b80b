use Rattle.std.proofs.Common.{◌≡◌, ◌∙◌, [], Some, sym}
use Rattle.std.proofs.lemmas.Result.{err_from_is_err_and}
use Rattle.std.specs.Cmp.Lexicographic.{bytes_decides}
use Rattle.sym_check.specs.Checking.CheckedScripts.{checked_plan}
use Rattle.sym_check.specs.Plan.ScriptPlans.{ScriptPlan}
use Rattle.sym_file.specs.Reading.{head_at}
use Rattle.sym_file.proofs.JoinedTexts.{no_end, whole_joined}
use Rattle.sym_file.proofs.TakenTexts.{no_groups, no_head, not_begun}
use Rattle.sym_file.proofs.joined_groups.join_body.Goals as goal

pub returns-in_err-first : goal.returns-in_err-first
returns-in_err-first c =
    let p : ScriptPlan = checked_plan c.args.joiner.now.checked.now in
    let e = err_from_is_err_and c.from_residual.result c.from_residual.ensures.1 in
    rw (e.1, e.2) (no_head p c.args.bytes.now c.in_err-first.field-0.0 c.args.wanted c.in_err-first.ensures)

pub returns-then-not-follows : goal.returns-then-not-follows
returns-then-not-follows c =
    let p : ScriptPlan = checked_plan c.args.joiner.now.checked.now in
    let head : head_at c.args.bytes.now ≡ Some ((c.in_ok-first.first, c.in_ok-first.next, c.in_ok-first.count), c.in_ok-first.rest.now) = c.in_ok-first.ensures in
    not_begun p c.args.bytes.now c.in_ok-first.first c.in_ok-first.next c.in_ok-first.count c.in_ok-first.rest.now head c.args.wanted (λ h. let yes = c.begins-follows.ensures.1 h in let no = c.if-not-follows.true in absurd (cc (yes, no)))

pub returns-in_err-rest : goal.returns-in_err-rest
returns-in_err-rest c =
    let p : ScriptPlan = checked_plan c.args.joiner.now.checked.now in
    let head : head_at c.args.bytes.now ≡ Some ((c.in_ok-first.first, c.in_ok-first.next, c.in_ok-first.count), c.in_ok-first.rest.now) = c.in_ok-first.ensures in
    let e = err_from_is_err_and c.from_residual-in_err-rest.result c.from_residual-in_err-rest.ensures.1 in
    rw (e.1, e.2) (no_groups p c.args.bytes.now c.in_ok-first.first c.in_ok-first.next c.in_ok-first.count c.in_ok-first.rest.now head c.args.wanted [] [] c.in_err-rest.field-0.0 c.in_err-rest.ensures)

pub returns-then-not-ended : goal.returns-then-not-ended
returns-then-not-ended c =
    let p : ScriptPlan = checked_plan c.args.joiner.now.checked.now in
    let head : head_at c.args.bytes.now ≡ Some ((c.in_ok-first.first, c.in_ok-first.next, c.in_ok-first.count), c.in_ok-first.rest.now) = c.in_ok-first.ensures in
    no_end p c.args.bytes.now c.in_ok-first.first c.in_ok-first.next c.in_ok-first.count c.in_ok-first.rest.now head c.args.wanted c.args.joiner.now.limit c.args.groups.now c.join_groups.new.groups c.in_ok-rest.rest.now c.in_ok-rest.ensures
    (λ e. let yes = (bytes_decides c.in_ok-rest.rest.now c.as_slice.result.now).1 (e ∙ sym c.as_slice.ensures) in let no = sym c.eq-ended.ensures ∙ c.if-not-ended.true in absurd (cc (yes, no)))

pub returns : goal.returns
returns c =
    let p : ScriptPlan = checked_plan c.args.joiner.now.checked.now in
    let head : head_at c.args.bytes.now ≡ Some ((c.in_ok-first.first, c.in_ok-first.next, c.in_ok-first.count), c.in_ok-first.rest.now) = c.in_ok-first.ensures in
    let begun = c.begins-follows.ensures.0 c.if-not-follows.false in
    whole_joined p c.args.bytes.now c.in_ok-first.first c.in_ok-first.next c.in_ok-first.count c.in_ok-first.rest.now head c.args.wanted c.args.joiner.now.limit c.args.groups.now c.join_groups.new.groups c.in_ok-rest.rest.now c.in_ok-rest.ensures
    ((bytes_decides c.in_ok-rest.rest.now c.as_slice.result.now).0 (sym c.eq-ended.ensures ∙ c.if-not-ended.false) ∙ c.as_slice.ensures) begun.0 begun.1 begun.2
