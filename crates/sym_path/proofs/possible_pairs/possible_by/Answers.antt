use Rattle.std.proofs.Common.{◌≡◌, ◌∙◌, sym, ap, subst, length, arith}
use Rattle.sym_check.specs.Plan.ScriptPlans.{ScriptPlan, script_plan}
use Rattle.sym_path.specs.Fitting.{EndFits, FormFits, FormsFit, PartFits}
use Rattle.sym_path.specs.declared.path.PathEnd.{PathEnd}
use Rattle.sym_path.proofs.Lists.{zip_length}
use Rattle.sym_path.proofs.possible_pairs.possible_by.Goals as goal

pub can_follow-requires-clause-lengths : goal.can_follow-requires-clause-lengths
can_follow-requires-clause-lengths c =
    let p : ScriptPlan = script_plan c.args.plan.now in
    let fits : FormsFit p c.args.p.now.when c.in-Next.forms = subst (λ (e : PathEnd). EndFits p c.args.p.now.when e) c.in-Next.is c.requires.first.end in
    ap length c.as_slice-in-Next.ensures ∙ sym (zip_length (FormFits p c.args.p.now.when) p.cells c.in-Next.forms fits.each) ∙ zip_length (PartFits p) p.cells c.args.q.now.when c.requires.second.parts ∙ sym (ap length c.as_slice-in-Next-2.ensures)

pub can_follow-requires-clause-few : goal.can_follow-requires-clause-few
can_follow-requires-clause-few c =
    let p : ScriptPlan = script_plan c.args.plan.now in
    let count = zip_length (PartFits p) p.cells c.args.p.now.when c.requires.first.parts in
    let few = c.requires.known.cell_count in
    let here : length c.as_slice.result.now ≡ length c.args.p.now.when = ap length c.as_slice.ensures in
    omega (arith, here, count, few)

pub can_follow-requires-clause-fixed : goal.can_follow-requires-clause-fixed
can_follow-requires-clause-fixed c = c.well_formed_tests_are_fixed.ensures (script_plan c.args.plan.now) c.requires.known
