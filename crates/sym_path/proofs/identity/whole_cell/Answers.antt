use Rattle.std.proofs.Common.{refl, sym, subst}
use Rattle.sym_check.specs.declared.plan.script.CellPlan.{CellPlan}
use Rattle.sym_check.specs.Plan.ScriptPlans.{script_plan}
use Rattle.sym_pred.specs.declared.form.HoldForm.TheVariants as hold
use Rattle.sym_path.specs.declared.form.Form.TheVariants as form
use Rattle.sym_path.specs.declared.part.Part.TheVariants as part
use Rattle.sym_path.specs.Identity.{IsWholeCell}
use Rattle.sym_path.proofs.identity.whole_cell.Goals as goal

pub returns-in-Hold : goal.returns-in-Hold
returns-in-Hold c = subst (λ (kind : CellPlan). IsWholeCell (script_plan c.args.plan.now) c.args.cell kind (part.Facts c.none.result) (form.Hold (hold.Copy c.args.cell))) (sym c.in-Hold.is) (c.none.ensures, refl)
