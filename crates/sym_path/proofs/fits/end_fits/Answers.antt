use Rattle.sym_check.specs.Plan.ScriptPlans.{script_plan}
use Rattle.sym_path.proofs.Checks.{end_taken, end_apart}
use Rattle.sym_path.proofs.fits.end_fits.Goals as goal

pub returns-then-forms_fit : goal.returns-then-forms_fit
returns-then-forms_fit c = end_taken (script_plan c.args.plan.now) c.args.when.now c.args.end.now c.in-Next.forms c.as_slice.result.now c.as_slice-then-forms_fit.result.now c.forms_fit.result c.are_taken.result c.in-Next.is c.as_slice.ensures c.as_slice-then-forms_fit.ensures c.if-forms_fit.true c.forms_fit.ensures c.are_taken.ensures

pub returns-else-forms_fit : goal.returns-else-forms_fit
returns-else-forms_fit c = end_apart (script_plan c.args.plan.now) c.args.when.now c.args.end.now c.in-Next.forms c.forms_fit.result c.in-Next.is c.if-forms_fit.false c.forms_fit.ensures
