use Rattle.std.proofs.Common.{◌≤◌, arith, lit<, sym, subst, unsigned_abs, ℤ}
use Rattle.sym_base.specs.Limits.{num_max}
use Rattle.sym_check.specs.Plan.ScriptPlans.{ScriptPlan, script_plan}
use Rattle.sym_int.proofs.Products.{line_size, shown}
use Rattle.sym_int.specs.Bounds.{wide_max}
use Rattle.sym_explore.proofs.ComparedPaths.{stored_number}
use Rattle.sym_explore.specs.Terms.{ReadyFits}
use Rattle.sym_explore.specs.declared.terms.Ready.TheVariants as ready
use Rattle.sym_explore.proofs.sure.term_on.Goals as goal

pub returns-in-Line-clause-small : goal.returns-in-Line-clause-small
returns-in-Line-clause-small c =
    let p : ScriptPlan = script_plan c.args._plan.now in
    let fits : ReadyFits p (ready.Line c.in-Line.pair) = subst (ReadyFits p) c.in-Line.is c.requires.ready in
    let size = line_size c.in-Line.pair.a c.number_on.result c.in-Line.pair.b num_max num_max num_max fits.1 c.number_on.ensures.small fits.2 in
    let small : unsigned_abs c.line_at.result ≤ wide_max = subst (λ (x : ℤ). unsigned_abs x ≤ wide_max) (sym c.line_at.ensures) (rw (stored_number c.number_on.result c.number_on.ensures.small) (omega (arith, size))) in
    rw (shown c.line_at.result wide_max small (lit< tt)) small
