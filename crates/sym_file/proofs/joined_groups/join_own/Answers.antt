use Rattle.std.proofs.Common.{◌≡◌, ◌≢◌, ◌∙◌, ◌<◌, ◌^◌, arith, length, subst, sym}
use Rattle.std.proofs.lemmas.Result.{err_from_is_err_and}
use Rattle.std.specs.Cmp.Lexicographic.{bytes_decides}
use Rattle.sym_check.specs.Checking.CheckedScripts.{checked_plan}
use Rattle.sym_check.specs.Plan.ScriptPlans.{ScriptPlan}
use Rattle.sym_check.specs.Plan.WellFormed.{IsWellFormed}
use Rattle.sym_file.proofs.JoinedTexts.{own_joined}
use Rattle.sym_file.proofs.TakenTexts.{no_text, other_text}
use Rattle.sym_file.proofs.joined_groups.join_own.Goals as goal

pub returns-in_err-found : goal.returns-in_err-found
returns-in_err-found c =
    let p : ScriptPlan = checked_plan c.args.joiner.now.checked.now in
    let formed : IsWellFormed p = subst IsWellFormed c.plan-plan.ensures.same c.plan-plan.ensures.well_formed in
    let few : length c.args.bytes.now < 2 ^ 64 = let size = c.requires.size in omega (arith, size) in
    let e = err_from_is_err_and c.from_residual.result c.from_residual.ensures.1 in
    rw (e.1, e.2) (no_text c.args.own.now p formed c.args.bytes.now few c.args.wanted c.in_err-found.field-0.0 c.in_err-found.ensures)

pub returns-then-not-same : goal.returns-then-not-same
returns-then-not-same c =
    let p : ScriptPlan = checked_plan c.args.joiner.now.checked.now in
    let formed : IsWellFormed p = subst IsWellFormed c.plan-plan.ensures.same c.plan-plan.ensures.well_formed in
    let few : length c.args.bytes.now < 2 ^ 64 = let size = c.requires.size in omega (arith, size) in
    let apart : c.in_ok-found.found.now ≢ c.args.own.now =
    (λ e. let yes = (bytes_decides c.in_ok-found.found.now c.args.own.now).1 e in let no = sym c.eq-same.ensures ∙ c.if-not-same.true in absurd (cc (yes, no))) in
    other_text c.args.own.now p formed c.args.bytes.now few c.args.wanted c.in_ok-found.found.now c.in_ok-found.rest.now c.in_ok-found.ensures apart

pub returns : goal.returns
returns c =
    let p : ScriptPlan = checked_plan c.args.joiner.now.checked.now in
    let formed : IsWellFormed p = subst IsWellFormed c.plan-plan.ensures.same c.plan-plan.ensures.well_formed in
    let few : length c.args.bytes.now < 2 ^ 64 = let size = c.requires.size in omega (arith, size) in
    let same : c.in_ok-found.found.now ≡ c.args.own.now = (bytes_decides c.in_ok-found.found.now c.args.own.now).0 (sym c.eq-same.ensures ∙ c.if-not-same.false) in
    own_joined c.args.own.now p formed c.args.bytes.now few c.args.wanted c.args.joiner.now.limit c.in_ok-found.found.now c.in_ok-found.rest.now c.in_ok-found.ensures c.args.groups.now c.join_body.new.groups c.join_body.result same c.join_body.ensures
