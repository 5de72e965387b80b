use Rattle.std.proofs.Common.{◌≡◌, ℕ, ◌+◌, ◌∙◌, Bool, true, Result, Err, arith, rules, sym, ap, subst}
use Rattle.std.specs.Prelude.{OnOk}
use Rattle.sym_base.specs.Tests.{Truth}
use Rattle.sym_check.specs.Checking.KnownValues.{known_values}
use Rattle.sym_check.specs.Meaning.Conditions.{test_truth, truth}
use Rattle.sym_check.specs.Meaning.FixedValues.{Environment}
use Rattle.sym_check.specs.Meaning.Updates.{environment, or_fault}
use Rattle.sym_check.specs.Plan.CondPlans.{CondPlan, cond_plan}
use Rattle.sym_check.specs.Plan.DoPlans.{DoPlan, DosPlan, Let, Then, do_plan, dos_plan}
use Rattle.sym_check.specs.Plan.FixedPlans.{fixed_plan}
use Rattle.sym_check.specs.Plan.ScriptPlans.{ScriptPlan, script_plan}
use Rattle.sym_path.specs.declared.path.Path.{Path}
use Rattle.sym_path.specs.Changing.{GoesOn}
use Rattle.sym_plain.specs.Running.{Gives}
use Rattle.sym_plain.specs.declared.update.stop.Stop.{Stop}
use Rattle.sym_plain.specs.declared.update.stop.Stop.TheVariants as stop
use Rattle.sym_explore.specs.Knowing.{DosAreKnown}
use Rattle.sym_explore.specs.Stepping.{after_do, after_dos}
use Rattle.sym_explore.specs.Sure.{HoldsAfter, IsStepped, IsSurePath}
use Rattle.sym_explore.proofs.AssignedLists.{on_ok}
use Rattle.sym_explore.proofs.KnownParts.{rest_known}
use Rattle.sym_explore.proofs.Sizes.{do_size, dos_size}
use Rattle.sym_explore.proofs.SureSteps.{if_failing, stepped_over, stepped_then, sure_still}
use Rattle.sym_explore.proofs.known_paths.+stepping.Goals as goal

pub step_all-step_all-requires : goal.step_all-step_all-requires
step_all-step_all-requires t c =
    let p : ScriptPlan = script_plan c.args.plan.now in
    let k : Environment = environment c.args.rec.now c.args.scratch.now.locals in
    let d : DoPlan = do_plan c.deref.result.now in
    let rest : DosPlan = dos_plan c.deref-in-More.result.now in
    let is : dos_plan c.args.statements.now ≡ Then d rest = search rules in
    let size : dos_size (dos_plan c.args.statements.now) ≡ do_size d + dos_size rest + 1 = ap dos_size is in
    let goes : GoesOn c.step.new.path.end = c.goes_on.ensures.0 c.if-not-goes_on.false in
    let named = c.in_ok-step-in-More.ensures.named goes in
    let well : DosAreKnown p k (Then d rest) = subst (λ (ds : DosPlan). DosAreKnown p k ds) is c.requires.well in
    let next = rest_known p k (environment c.args.rec.now c.step.new.scratch.locals) d rest well named.0 named.1 in
    let sure : IsSurePath p c.step.new.path = sure_still p k c.args.rec.now.no d rest c.args.path.now c.step.new.path c.in_ok-step-in-More.ensures.stepped goes in
    (omega (arith, size, c.decreases), (c.requires.known, (next, sure)))

pub step_all-returns-then-not-goes_on-clause-stepped : goal.step_all-returns-then-not-goes_on-clause-stepped
step_all-returns-then-not-goes_on-clause-stepped t c =
    let p : ScriptPlan = script_plan c.args.plan.now in
    let k : Environment = environment c.args.rec.now c.args.scratch.now.locals in
    let n : ℕ = c.args.rec.now.no in
    let d : DoPlan = do_plan c.deref.result.now in
    let rest : DosPlan = dos_plan c.in-More.rest.value in
    let is : dos_plan c.args.statements.now ≡ Then d rest = search rules in
    let over : ¬ (GoesOn c.step.new.path.end) = λ g. let t : c.goes_on.result ≡ true = c.goes_on.ensures.1 g in cc in
    subst (λ (ds : DosPlan). IsStepped p (after_dos p k n ds) n c.args.path.now c.step.new.path) (sym is)
    (stepped_over p k n d rest c.args.path.now c.step.new.path c.in_ok-step-in-More.ensures.stepped over)

pub step_all-returns-else-not-goes_on-clause-stepped : goal.step_all-returns-else-not-goes_on-clause-stepped
step_all-returns-else-not-goes_on-clause-stepped t c =
    let p : ScriptPlan = script_plan c.args.plan.now in
    let k : Environment = environment c.args.rec.now c.args.scratch.now.locals in
    let n : ℕ = c.args.rec.now.no in
    let d : DoPlan = do_plan c.deref.result.now in
    let rest : DosPlan = dos_plan c.deref-in-More.result.now in
    let is : dos_plan c.args.statements.now ≡ Then d rest = search rules in
    let old : Path = c.args.path.now in
    let mid : Path = c.step.new.path in
    let new : Path = c.step_all.new.path in
    let goes : GoesOn mid.end = c.goes_on.ensures.0 c.if-not-goes_on.false in
    let named = c.in_ok-step-in-More.ensures.named goes in
    on_ok c.step_all.result
    (λ h. subst (λ (ds : DosPlan). IsStepped p (after_dos p k n ds) n old new) (sym is)
    (stepped_then p k n d rest old mid c.in_ok-step-in-More.ensures.stepped new (subst (λ (v : Environment). IsStepped p (after_dos p v n rest) n mid new) named.1 h)))
    c.step_all.ensures.stepped

pub choose-returns-in-Err-Fault-clause-stepped : goal.choose-returns-in-Err-Fault-clause-stepped
choose-returns-in-Err-Fault-clause-stepped t c =
    let p : ScriptPlan = script_plan c.args.plan.now in
    let T : Truth = test_truth p.tests in
    let k : Environment = environment c.args.rec.now c.args.scratch.now.locals in
    let q : CondPlan = cond_plan c.args.choice.now.condition.now in
    let is : c.truth_on.result ≡ Err (stop.Fault c.in-Err-Fault.field-0-0) = c.in-Err-Fault.is ∙ ap Err c.in-Err-Fault.field-0-is in
    let fails : HoldsAfter p c.args.path.now (λ s. or_fault (truth T k q s) ≡ Err c.in-Err-Fault.field-0-0) =
    λ s later e.
    let got : Gives (Err (stop.Fault c.in-Err-Fault.field-0-0)) (or_fault (truth T (known_values c.known_in-known.result) q later)) = subst (λ (r : Result Bool Stop). Gives r (or_fault (truth T (known_values c.known_in-known.result) q later))) is (c.truth_on.ensures s later e) in
    subst (λ (v : Environment). or_fault (truth T v q later) ≡ Err c.in-Err-Fault.field-0-0) c.known_in-known.ensures got in
    if_failing p k c.args.rec.now.no c.args.path.now c.fail.new.self c.requires.sure q (dos_plan c.args.choice.now.then.now) (dos_plan c.args.choice.now.otherwise.now) c.in-Err-Fault.field-0-0 c.arith.result fails c.fail.ensures c.arith.ensures.kind c.arith.ensures.no

pub step-returns-in-Let-clause-stepped : goal.step-returns-in-Let-clause-stepped
step-returns-in-Let-clause-stepped t c =
    let p : ScriptPlan = script_plan c.args.plan.now in
    let k : Environment = environment c.args.rec.now c.args.scratch.now.locals in
    let n : ℕ = c.args.rec.now.no in
    let is : do_plan c.args.statement.now ≡ Let c.in-Let.local (fixed_plan c.in-Let.value) = ap do_plan c.in-Let.is in
    subst (λ (d : DoPlan). OnOk c.name_on.result (IsStepped p (after_do p k n d) n c.args.path.now c.name_on.new.path)) (sym is) (c.name_on.ensures.stepped p c.requires.sure)
