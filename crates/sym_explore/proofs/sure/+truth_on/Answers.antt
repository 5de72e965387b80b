use Rattle.std.proofs.Common.{◌≡◌, Bool, false, not, refl, rules, sym, subst, true}
use Rattle.std.proofs.lemmas.Result.{err_from_is_err_and}
use Rattle.std.specs.Prelude.{Ok, Err, if◌then◌else◌}
use Rattle.sym_base.specs.Tests.{Truth}
use Rattle.sym_check.specs.Checking.KnownValues.{known_values}
use Rattle.sym_check.specs.Meaning.Conditions.{test_truth, truth}
use Rattle.sym_check.specs.Meaning.FixedValues.{Environment}
use Rattle.sym_check.specs.Meaning.Updates.{or_fault}
use Rattle.sym_check.specs.Plan.CondPlans.{CondPlan, And, Not, Or, cond_plan}
use Rattle.sym_check.specs.Plan.ScriptPlans.{ScriptPlan, script_plan}
use Rattle.sym_plain.specs.Running.{Gives}
use Rattle.sym_explore.proofs.SurePaths.{err_gives, ok_gives}
use Rattle.sym_explore.proofs.sure.+truth_on.Goals as goal

pub returns-in_err-truth_on-in-Not : goal.returns-in_err-truth_on-in-Not
returns-in_err-truth_on-in-Not t c =
    let p : ScriptPlan = script_plan c.args.plan.now in
    let T : Truth = test_truth p.tests in
    let k : Environment = known_values c.args.known.now in
    let part : CondPlan = cond_plan c.deref.result.now in
    let is : cond_plan c.args.condition.now ≡ Not part = search rules in
    let q = err_from_is_err_and c.from_residual.result c.from_residual.ensures.1 in
    rw (q.1, q.2)
    (λ s later e. subst (λ (d : CondPlan). Gives (Err c.in_err-truth_on-in-Not.field-0.0) (or_fault (truth T k d later))) (sym is)
    (err_gives c.in_err-truth_on-in-Not.field-0.0 (truth T k part later) (λ (x : Bool). Ok (not x)) (c.in_err-truth_on-in-Not.ensures s later e)))

pub returns-in_err-truth_on-in-And : goal.returns-in_err-truth_on-in-And
returns-in_err-truth_on-in-And t c =
    let p : ScriptPlan = script_plan c.args.plan.now in
    let T : Truth = test_truth p.tests in
    let k : Environment = known_values c.args.known.now in
    let part : CondPlan = cond_plan c.deref-in-And.result.now in
    let right : CondPlan = cond_plan c.in-And.right.value in
    let is : cond_plan c.args.condition.now ≡ And part right = search rules in
    let q = err_from_is_err_and c.from_residual-in_err-truth_on-in-And.result c.from_residual-in_err-truth_on-in-And.ensures.1 in
    rw (q.1, q.2)
    (λ s later e. subst (λ (d : CondPlan). Gives (Err c.in_err-truth_on-in-And.field-0.0) (or_fault (truth T k d later))) (sym is)
    (err_gives c.in_err-truth_on-in-And.field-0.0 (truth T k part later) (λ (x : Bool). if x then truth T k right later else Ok x) (c.in_err-truth_on-in-And.ensures s later e)))

pub returns-in_err-truth_on-in-Or : goal.returns-in_err-truth_on-in-Or
returns-in_err-truth_on-in-Or t c =
    let p : ScriptPlan = script_plan c.args.plan.now in
    let T : Truth = test_truth p.tests in
    let k : Environment = known_values c.args.known.now in
    let part : CondPlan = cond_plan c.deref-in-Or.result.now in
    let right : CondPlan = cond_plan c.in-Or.right.value in
    let is : cond_plan c.args.condition.now ≡ Or part right = search rules in
    let q = err_from_is_err_and c.from_residual-in_err-truth_on-in-Or.result c.from_residual-in_err-truth_on-in-Or.ensures.1 in
    rw (q.1, q.2)
    (λ s later e. subst (λ (d : CondPlan). Gives (Err c.in_err-truth_on-in-Or.field-0.0) (or_fault (truth T k d later))) (sym is)
    (err_gives c.in_err-truth_on-in-Or.field-0.0 (truth T k part later) (λ (x : Bool). if x then Ok x else truth T k right later) (c.in_err-truth_on-in-Or.ensures s later e)))

pub returns-in_ok-truth_on-in-Not : goal.returns-in_ok-truth_on-in-Not
returns-in_ok-truth_on-in-Not t c = λ s later e.
    let p : ScriptPlan = script_plan c.args.plan.now in
    let T : Truth = test_truth p.tests in
    let k : Environment = known_values c.args.known.now in
    let part : CondPlan = cond_plan c.deref.result.now in
    let is : cond_plan c.args.condition.now ≡ Not part = search rules in
    let left : Gives (Ok c.in_ok-truth_on-in-Not.field-0) (or_fault (truth T k part later)) = c.in_ok-truth_on-in-Not.ensures s later e in
    subst (λ (d : CondPlan). Gives (Ok (not c.in_ok-truth_on-in-Not.field-0)) (or_fault (truth T k d later))) (sym is)
    (ok_gives c.in_ok-truth_on-in-Not.field-0 (truth T k part later) (λ (x : Bool). Ok (not x)) (Ok (not c.in_ok-truth_on-in-Not.field-0)) left refl)

pub returns-else-branch : goal.returns-else-branch
returns-else-branch t c = λ s later e.
    let p : ScriptPlan = script_plan c.args.plan.now in
    let T : Truth = test_truth p.tests in
    let k : Environment = known_values c.args.known.now in
    let part : CondPlan = cond_plan c.deref-in-And.result.now in
    let right : CondPlan = cond_plan c.in-And.right.value in
    let is : cond_plan c.args.condition.now ≡ And part right = search rules in
    let left : Gives (Ok false) (or_fault (truth T k part later)) = subst (λ (b : Bool). Gives (Ok b) (or_fault (truth T k part later))) c.if-branch.false (c.in_ok-truth_on-in-And.ensures s later e) in
    subst (λ (d : CondPlan). Gives (Ok false) (or_fault (truth T k d later))) (sym is)
    (ok_gives false (truth T k part later) (λ (x : Bool). if x then truth T k right later else Ok x) (Ok false) left refl)

pub returns-then-branch-2 : goal.returns-then-branch-2
returns-then-branch-2 t c = λ s later e.
    let p : ScriptPlan = script_plan c.args.plan.now in
    let T : Truth = test_truth p.tests in
    let k : Environment = known_values c.args.known.now in
    let part : CondPlan = cond_plan c.deref-in-Or.result.now in
    let right : CondPlan = cond_plan c.in-Or.right.value in
    let is : cond_plan c.args.condition.now ≡ Or part right = search rules in
    let left : Gives (Ok true) (or_fault (truth T k part later)) = subst (λ (b : Bool). Gives (Ok b) (or_fault (truth T k part later))) c.if-branch-2.true (c.in_ok-truth_on-in-Or.ensures s later e) in
    subst (λ (d : CondPlan). Gives (Ok true) (or_fault (truth T k d later))) (sym is)
    (ok_gives true (truth T k part later) (λ (x : Bool). if x then Ok x else truth T k right later) (Ok true) left refl)
