use Rattle.std.proofs.Common.{◌≡◌, true, false, sym, ◌∙◌}
use Rattle.sym_check.specs.Plan.ScriptPlans.{script_plan}
use Rattle.sym_path.proofs.Checks.{parts_decided}
use Rattle.sym_path.proofs.path.Path.fits_by.Goals as goal

pub returns-then-parts_fit : goal.returns-then-parts_fit
returns-then-parts_fit c = (
  λ t. record {
    parts = (parts_decided (script_plan c.args.plan.now) c.args.self.now.when).0 (c.parts_fit.ensures.0 c.if-parts_fit.true);
    end = c.end_fits.ensures.0 t;
  },
  λ h. c.end_fits.ensures.1 h.end,
)

pub returns-else-parts_fit : goal.returns-else-parts_fit
returns-else-parts_fit c = (
  λ t. absurd (let e : true ≡ false = sym t ∙ c.if-parts_fit.false in cc),
  λ h. c.parts_fit.ensures.1 ((parts_decided (script_plan c.args.plan.now) c.args.self.now.when).1 h.parts),
)
