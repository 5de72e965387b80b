use Rattle.std.proofs.Common.{◌≡◌, ◌≢◌, ◌∙◌, ◌<◌, ◌^◌, Some, arith, length, subst, sym}
use Rattle.std.proofs.lemmas.Result.{err_from_is_err_and}
use Rattle.std.specs.Cmp.Lexicographic.{bytes_decides}
use Rattle.sym_check.specs.Checking.CheckedScripts.{checked_plan}
use Rattle.sym_check.specs.Plan.ScriptPlans.{ScriptPlan}
use Rattle.sym_check.specs.Plan.WellFormed.{IsWellFormed}
use Rattle.sym_run.specs.SavedRuns.{IsLawfulSaved}
use Rattle.sym_file.specs.Reading.{Fails, body_at}
use Rattle.sym_file.proofs.Read.{broken, broken_only, lawful_one, other_only, other_script, stopped, stopped_only, stored_one, unlawful, unlawful_only, whole_only}
use Rattle.sym_file.proofs.reader.read_own.Goals as goal

pub returns-in_err-found-clause-read : goal.returns-in_err-found-clause-read
returns-in_err-found-clause-read c =
    let p : ScriptPlan = checked_plan c.args.checked.now in
    let formed : IsWellFormed p = subst IsWellFormed c.plan-plan.ensures.same c.plan-plan.ensures.well_formed in
    let few : length c.args.bytes.now < 2 ^ 64 = let size = c.requires in omega (arith, size) in
    let e = err_from_is_err_and c.from_residual.result c.from_residual.ensures.1 in
    rw (e.1, e.2) (stopped c.args.own.now p formed c.args.bytes.now few c.in_err-found.field-0.0 c.in_err-found.ensures)

pub returns-in_err-found-clause-only : goal.returns-in_err-found-clause-only
returns-in_err-found-clause-only c = λ saved stored h.
    let p : ScriptPlan = checked_plan c.args.checked.now in
    let formed : IsWellFormed p = subst IsWellFormed c.plan-plan.ensures.same c.plan-plan.ensures.well_formed in
    let few : length c.args.bytes.now < 2 ^ 64 = let size = c.requires in omega (arith, size) in
    let e = err_from_is_err_and c.from_residual.result c.from_residual.ensures.1 in
    rw (e.1, e.2) (stopped_only c.args.own.now p formed c.args.bytes.now few c.in_err-found.field-0.0 c.in_err-found.ensures saved stored h)

pub returns-then-not-same-clause-read : goal.returns-then-not-same-clause-read
returns-then-not-same-clause-read c =
    let p : ScriptPlan = checked_plan c.args.checked.now in
    let formed : IsWellFormed p = subst IsWellFormed c.plan-plan.ensures.same c.plan-plan.ensures.well_formed in
    let few : length c.args.bytes.now < 2 ^ 64 = let size = c.requires in omega (arith, size) in
    let apart : c.in_ok-found.found.now ≢ c.args.own.now =
    (λ e. let yes = (bytes_decides c.in_ok-found.found.now c.args.own.now).1 e in let no = sym c.eq-same.ensures ∙ c.if-not-same.true in absurd (cc (yes, no))) in
    other_script c.args.own.now p formed c.args.bytes.now few c.in_ok-found.found.now c.in_ok-found.rest.now c.in_ok-found.ensures apart

pub returns-then-not-same-clause-only : goal.returns-then-not-same-clause-only
returns-then-not-same-clause-only c = λ saved stored h.
    let p : ScriptPlan = checked_plan c.args.checked.now in
    let formed : IsWellFormed p = subst IsWellFormed c.plan-plan.ensures.same c.plan-plan.ensures.well_formed in
    let few : length c.args.bytes.now < 2 ^ 64 = let size = c.requires in omega (arith, size) in
    let apart : c.in_ok-found.found.now ≢ c.args.own.now =
    (λ e. let yes = (bytes_decides c.in_ok-found.found.now c.args.own.now).1 e in let no = sym c.eq-same.ensures ∙ c.if-not-same.true in absurd (cc (yes, no))) in
    other_only c.args.own.now p formed c.args.bytes.now few c.in_ok-found.found.now c.in_ok-found.rest.now c.in_ok-found.ensures apart saved h

pub returns-in_err-saved-clause-read : goal.returns-in_err-saved-clause-read
returns-in_err-saved-clause-read c =
    let p : ScriptPlan = checked_plan c.args.checked.now in
    let formed : IsWellFormed p = subst IsWellFormed c.plan-plan.ensures.same c.plan-plan.ensures.well_formed in
    let few : length c.args.bytes.now < 2 ^ 64 = let size = c.requires in omega (arith, size) in
    let same : c.in_ok-found.found.now ≡ c.args.own.now = (bytes_decides c.in_ok-found.found.now c.args.own.now).0 (sym c.eq-same.ensures ∙ c.if-not-same.false) in
    let fails : Fails c.in_err-saved.field-0.0 (body_at p c.in_ok-found.rest.now) =
    subst (λ (q : ScriptPlan). Fails c.in_err-saved.field-0.0 (body_at q c.in_ok-found.rest.now)) c.plan-plan.ensures.same c.in_err-saved.ensures in
    let e = err_from_is_err_and c.from_residual-in_err-saved.result c.from_residual-in_err-saved.ensures.1 in
    rw (e.1, e.2) (broken c.args.own.now p formed c.args.bytes.now few c.in_ok-found.found.now c.in_ok-found.rest.now c.in_ok-found.ensures c.in_err-saved.field-0.0 same fails)

pub returns-in_err-saved-clause-only : goal.returns-in_err-saved-clause-only
returns-in_err-saved-clause-only c = λ saved stored h.
    let p : ScriptPlan = checked_plan c.args.checked.now in
    let formed : IsWellFormed p = subst IsWellFormed c.plan-plan.ensures.same c.plan-plan.ensures.well_formed in
    let few : length c.args.bytes.now < 2 ^ 64 = let size = c.requires in omega (arith, size) in
    let fails : Fails c.in_err-saved.field-0.0 (body_at p c.in_ok-found.rest.now) =
    subst (λ (q : ScriptPlan). Fails c.in_err-saved.field-0.0 (body_at q c.in_ok-found.rest.now)) c.plan-plan.ensures.same c.in_err-saved.ensures in
    let e = err_from_is_err_and c.from_residual-in_err-saved.result c.from_residual-in_err-saved.ensures.1 in
    rw (e.1, e.2) (broken_only c.args.own.now p formed c.args.bytes.now few c.in_ok-found.found.now c.in_ok-found.rest.now c.in_ok-found.ensures c.in_err-saved.field-0.0 fails saved stored h)

pub returns-then-is_lawful-clause-read : goal.returns-then-is_lawful-clause-read
returns-then-is_lawful-clause-read c =
    let p : ScriptPlan = checked_plan c.args.checked.now in
    let formed : IsWellFormed p = subst IsWellFormed c.plan-plan.ensures.same c.plan-plan.ensures.well_formed in
    let few : length c.args.bytes.now < 2 ^ 64 = let size = c.requires in omega (arith, size) in
    let same : c.in_ok-found.found.now ≡ c.args.own.now = (bytes_decides c.in_ok-found.found.now c.args.own.now).0 (sym c.eq-same.ensures ∙ c.if-not-same.false) in
    let read : body_at p c.in_ok-found.rest.now ≡ Some c.in_ok-saved.saved =
    subst (λ (q : ScriptPlan). body_at q c.in_ok-found.rest.now ≡ Some c.in_ok-saved.saved) c.plan-plan.ensures.same c.in_ok-saved.ensures in
    lawful_one c.args.own.now p formed c.args.bytes.now few c.in_ok-found.found.now c.in_ok-found.rest.now c.in_ok-found.ensures c.in_ok-saved.saved same read (c.is_lawful.ensures.0 c.if-is_lawful.true)

pub returns-then-is_lawful-clause-only : goal.returns-then-is_lawful-clause-only
returns-then-is_lawful-clause-only c = λ saved stored h.
    let p : ScriptPlan = checked_plan c.args.checked.now in
    let formed : IsWellFormed p = subst IsWellFormed c.plan-plan.ensures.same c.plan-plan.ensures.well_formed in
    let few : length c.args.bytes.now < 2 ^ 64 = let size = c.requires in omega (arith, size) in
    let read : body_at p c.in_ok-found.rest.now ≡ Some c.in_ok-saved.saved =
    subst (λ (q : ScriptPlan). body_at q c.in_ok-found.rest.now ≡ Some c.in_ok-saved.saved) c.plan-plan.ensures.same c.in_ok-saved.ensures in
    whole_only c.args.own.now p formed c.args.bytes.now few c.in_ok-found.found.now c.in_ok-found.rest.now c.in_ok-found.ensures c.in_ok-saved.saved read saved stored h

pub returns-then-is_lawful-clause-stored : goal.returns-then-is_lawful-clause-stored
returns-then-is_lawful-clause-stored c =
    let p : ScriptPlan = checked_plan c.args.checked.now in
    let formed : IsWellFormed p = subst IsWellFormed c.plan-plan.ensures.same c.plan-plan.ensures.well_formed in
    let few : length c.args.bytes.now < 2 ^ 64 = let size = c.requires in omega (arith, size) in
    let read : body_at p c.in_ok-found.rest.now ≡ Some c.in_ok-saved.saved =
    subst (λ (q : ScriptPlan). body_at q c.in_ok-found.rest.now ≡ Some c.in_ok-saved.saved) c.plan-plan.ensures.same c.in_ok-saved.ensures in
    stored_one c.args.own.now p formed c.args.bytes.now few c.in_ok-found.found.now c.in_ok-found.rest.now c.in_ok-found.ensures c.in_ok-saved.saved read

pub returns-else-is_lawful-clause-read : goal.returns-else-is_lawful-clause-read
returns-else-is_lawful-clause-read c =
    let p : ScriptPlan = checked_plan c.args.checked.now in
    let formed : IsWellFormed p = subst IsWellFormed c.plan-plan.ensures.same c.plan-plan.ensures.well_formed in
    let few : length c.args.bytes.now < 2 ^ 64 = let size = c.requires in omega (arith, size) in
    let same : c.in_ok-found.found.now ≡ c.args.own.now = (bytes_decides c.in_ok-found.found.now c.args.own.now).0 (sym c.eq-same.ensures ∙ c.if-not-same.false) in
    let read : body_at p c.in_ok-found.rest.now ≡ Some c.in_ok-saved.saved =
    subst (λ (q : ScriptPlan). body_at q c.in_ok-found.rest.now ≡ Some c.in_ok-saved.saved) c.plan-plan.ensures.same c.in_ok-saved.ensures in
    let none : IsLawfulSaved p c.in_ok-saved.saved → ⊥ = (λ l. let yes = c.is_lawful.ensures.1 l in let no = c.if-is_lawful.false in absurd (cc (yes, no))) in
    unlawful c.args.own.now p formed c.args.bytes.now few c.in_ok-found.found.now c.in_ok-found.rest.now c.in_ok-found.ensures c.in_ok-saved.saved same read none

pub returns-else-is_lawful-clause-only : goal.returns-else-is_lawful-clause-only
returns-else-is_lawful-clause-only c = λ saved stored h.
    let p : ScriptPlan = checked_plan c.args.checked.now in
    let formed : IsWellFormed p = subst IsWellFormed c.plan-plan.ensures.same c.plan-plan.ensures.well_formed in
    let few : length c.args.bytes.now < 2 ^ 64 = let size = c.requires in omega (arith, size) in
    let read : body_at p c.in_ok-found.rest.now ≡ Some c.in_ok-saved.saved =
    subst (λ (q : ScriptPlan). body_at q c.in_ok-found.rest.now ≡ Some c.in_ok-saved.saved) c.plan-plan.ensures.same c.in_ok-saved.ensures in
    let none : IsLawfulSaved p c.in_ok-saved.saved → ⊥ = (λ l. let yes = c.is_lawful.ensures.1 l in let no = c.if-is_lawful.false in absurd (cc (yes, no))) in
    unlawful_only c.args.own.now p formed c.args.bytes.now few c.in_ok-found.found.now c.in_ok-found.rest.now c.in_ok-found.ensures c.in_ok-saved.saved read none saved stored h
