use Rattle.std.proofs.Common.{sym, subst}
use Rattle.sym_check.specs.Plan.ScriptPlans.{ScriptPlan, script_plan}
use Rattle.sym_explore.specs.Terms.{IsReadyOver, ReadyFits}
use Rattle.sym_explore.specs.declared.terms.Ready.{Ready}
use Rattle.sym_explore.specs.declared.terms.Ready.TheVariants as ready
use Rattle.sym_explore.proofs.TermForms.{line_over, line_ended}
use Rattle.sym_explore.proofs.terms.ready_form.Goals as goal

pub returns-in-Some : goal.returns-in-Some
returns-in-Some c =
    let p : ScriptPlan = script_plan c.args._plan.now in
    let line : ReadyFits p (ready.Line c.in-Line.pair) = subst (ReadyFits p) c.in-Line.is c.requires.ready in
    subst (λ (r : Ready). IsReadyOver p r c.args.path.now c.scaled.result) (sym c.in-Line.is)
    (line_over p c.in-Line.pair line.0 c.args.path.now c.in-Some.form c.scaled.result c.requires.fits c.in-Some.ensures c.scaled.ensures)

pub returns-in-None : goal.returns-in-None
returns-in-None c =
    let p : ScriptPlan = script_plan c.args._plan.now in
    let line : ReadyFits p (ready.Line c.in-Line.pair) = subst (ReadyFits p) c.in-Line.is c.requires.ready in
    line_ended p c.in-Line.pair line.0 c.args.path.now c.requires.fits c.in-None.ensures
