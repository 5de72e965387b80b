use Rattle.std.proofs.Common.{◌≡◌, ◌∙◌, List, length, refl, sym, ap, subst, arith}
use Rattle.sym_check.specs.Meaning.Conditions.{test_truth}
use Rattle.sym_check.specs.Plan.ScriptPlans.{ScriptPlan, script_plan}
use Rattle.sym_path.specs.declared.part.Part.{Part}
use Rattle.sym_path.specs.declared.form.Form.{Form}
use Rattle.sym_path.specs.declared.path.Path.{Path}
use Rattle.sym_path.specs.declared.path.PathEnd.{PathEnd}
use Rattle.sym_path.specs.declared.path.PathEnd.TheVariants.{Next, Ended}
use Rattle.sym_path.specs.Fitting.{EndFits, FormFits, FormsFit, PartFits}
use Rattle.sym_path.specs.Following.{IsEndAfter, IsFollowed}
use Rattle.sym_path.specs.Left.{AreLeft}
use Rattle.sym_path.proofs.FollowingWhole.{fault_after, followed_path, forms_fit_next, path_is, possible_next}
use Rattle.sym_path.proofs.Lists.{zip_length}
use Rattle.sym_path.proofs.succession.ended_after.Goals as goal

pub leave_all-requires-clause-lengths : goal.leave_all-requires-clause-lengths
leave_all-requires-clause-lengths c =
    let p : ScriptPlan = script_plan c.args._plan.now in
    let when : List Part = c.args.path.now.when in
    let own : FormsFit p when c.in-Next.forms = forms_fit_next p c.args.path.now c.in-Next.forms c.in-Next.is c.requires.first in
    let both : length c.in-Next.forms ≡ length c.args.next.now.when = sym (zip_length (FormFits p when) p.cells c.in-Next.forms own.each) ∙ zip_length (PartFits p) p.cells c.args.next.now.when c.requires.second.parts in
    ap length c.as_slice.ensures ∙ both ∙ sym (ap length c.as_slice-in-Next.ensures)

pub leave_all-requires-clause-parts : goal.leave_all-requires-clause-parts
leave_all-requires-clause-parts c =
    let p : ScriptPlan = script_plan c.args._plan.now in
    let both : length c.args.path.now.when ≡ length c.args.next.now.when = sym (zip_length (PartFits p) p.cells c.args.path.now.when c.requires.first.parts) ∙ zip_length (PartFits p) p.cells c.args.next.now.when c.requires.second.parts in
    ap length c.in_ok-when-in-Next.ensures ∙ both ∙ sym (ap length c.as_slice-in-Next.ensures)

pub leave_all-requires-clause-few : goal.leave_all-requires-clause-few
leave_all-requires-clause-few c =
    let p : ScriptPlan = script_plan c.args._plan.now in
    let count = zip_length (PartFits p) p.cells c.args.path.now.when c.requires.first.parts in
    let few = c.requires.known.cell_count in
    let same = ap length c.in_ok-when-in-Next.ensures in
    omega (arith, count, few, same)

pub returns : goal.returns
returns c =
    let p : ScriptPlan = script_plan c.args._plan.now in
    let path : Path = c.args.path.now in
    let next : Path = c.args.next.now in
    let forms : List Form = c.in-Next.forms in
    let lefts : List Part = c.leave_all.new.when in
    let own : FormsFit p path.when forms = forms_fit_next p path forms c.in-Next.is c.requires.first in
    let of_needs : AreLeft c.as_slice.result.now next.when c.in_ok-when-in-Next.when lefts = subst (λ (ns : List Part). AreLeft c.as_slice.result.now ns c.in_ok-when-in-Next.when lefts) c.as_slice-in-Next.ensures c.in_ok-leave_all-in-Next.ensures in
    let of_forms : AreLeft forms next.when c.in_ok-when-in-Next.when lefts = subst (λ (fs : List Form). AreLeft fs next.when c.in_ok-when-in-Next.when lefts) c.as_slice.ensures of_needs in
    let left : AreLeft forms next.when path.when lefts = subst (λ (w : List Part). AreLeft forms next.when w lefts) c.in_ok-when-in-Next.ensures of_forms in
    let possible = possible_next (test_truth p.tests) path next forms c.in-Next.is c.requires.possible in
    let fits : EndFits p next.when (Ended c.args.fault) = subst (λ (e : PathEnd). EndFits p next.when e) c.requires.ended c.requires.second.end in
    let is : IsEndAfter p lefts forms next.end (Ended c.args.fault) = subst (λ (e : PathEnd). IsEndAfter p lefts forms e (Ended c.args.fault)) (sym c.requires.ended) (fault_after p path.when forms next.when lefts c.requires.known c.requires.first.parts own c.requires.second.parts left possible c.args.fault fits) in
    let whole : IsFollowed p (record { when = path.when; end = Next forms }) next (record { when = lefts; end = Ended c.args.fault }) = path_is p path.when forms next.when lefts c.requires.known c.requires.first.parts own c.requires.second.parts left possible next (Ended c.args.fault) refl is in
    followed_path p path next (record { when = lefts; end = Ended c.args.fault }) forms c.in-Next.is whole
