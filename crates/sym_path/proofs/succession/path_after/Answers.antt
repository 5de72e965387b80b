use Rattle.std.proofs.Common.{◌∙◌, List, length, refl, sym, ap, subst, arith}
use Rattle.sym_check.specs.Meaning.Conditions.{test_truth}
use Rattle.sym_check.specs.Plan.ScriptPlans.{ScriptPlan, script_plan}
use Rattle.sym_path.specs.declared.part.Part.{Part}
use Rattle.sym_path.specs.declared.form.Form.{Form}
use Rattle.sym_path.specs.declared.path.Path.{Path}
use Rattle.sym_path.specs.declared.path.PathEnd.{PathEnd}
use Rattle.sym_path.specs.declared.path.PathEnd.TheVariants.{Next}
use Rattle.sym_path.specs.Fitting.{FormFits, FormsFit, PartFits}
use Rattle.sym_path.specs.Following.{IsEndAfter, IsFollowed}
use Rattle.sym_path.specs.FormsAfter.{CanEndAfter, EndsAfter}
use Rattle.sym_path.specs.Left.{AreLeft}
use Rattle.sym_path.proofs.FollowingFits.{can_put}
use Rattle.sym_path.proofs.FollowingWhole.{can_end, end_is, path_is, possible_next, forms_fit_next, followed_path}
use Rattle.sym_path.proofs.Lists.{zip_length}
use Rattle.sym_path.proofs.succession.path_after.Goals as goal

pub narrow_all-requires-clause-lengths : goal.narrow_all-requires-clause-lengths
narrow_all-requires-clause-lengths c =
    let p : ScriptPlan = script_plan c.args._plan.now in
    let when : List Part = c.args.path.when in
    let own : FormsFit p when c.in-Next.forms = forms_fit_next p c.args.path c.in-Next.forms c.in-Next.is c.requires.first in
    sym (zip_length (FormFits p when) p.cells c.in-Next.forms own.each) ∙ zip_length (PartFits p) p.cells c.args.next.now.when c.requires.second.parts ∙ sym (ap length c.as_slice.ensures)

pub narrow_all-requires-clause-parts : goal.narrow_all-requires-clause-parts
narrow_all-requires-clause-parts c =
    let p : ScriptPlan = script_plan c.args._plan.now in
    sym (zip_length (PartFits p) p.cells c.args.path.when c.requires.first.parts) ∙ zip_length (PartFits p) p.cells c.args.next.now.when c.requires.second.parts ∙ sym (ap length c.as_slice.ensures)

pub narrow_all-requires-clause-few : goal.narrow_all-requires-clause-few
narrow_all-requires-clause-few c =
    let p : ScriptPlan = script_plan c.args._plan.now in
    let count = zip_length (PartFits p) p.cells c.args.path.when c.requires.first.parts in
    let few = c.requires.known.cell_count in
    omega (arith, count, few)

pub narrow_all-requires-clause-numbers : goal.narrow_all-requires-clause-numbers
narrow_all-requires-clause-numbers c =
    let p : ScriptPlan = script_plan c.args._plan.now in
    let when : List Part = c.args.path.when in
    let own : FormsFit p when c.in-Next.forms = forms_fit_next p c.args.path c.in-Next.forms c.in-Next.is c.requires.first in
    can_put p when c.in-Next.forms own.each c.requires.known c.as_slice.result.now

pub end_after-requires : goal.end_after-requires
end_after-requires c =
    let p : ScriptPlan = script_plan c.args._plan.now in
    let path : Path = c.args.path in
    let next : Path = c.args.next.now in
    let forms : List Form = c.in-Next.forms in
    let lefts : List Part = c.narrow_all.new.when in
    let after : List Form = c.in_ok-after-in-Next.after in
    let own : FormsFit p path.when forms = forms_fit_next p path forms c.in-Next.is c.requires.first in
    let both = c.in_ok-after-in-Next.ensures in
    let left : AreLeft forms next.when path.when lefts = subst (λ (ns : List Part). AreLeft forms ns path.when lefts) c.as_slice.ensures both.0 in
    let possible = possible_next (test_truth p.tests) path next forms c.in-Next.is c.requires.possible in
    subst (λ (w : List Part). CanEndAfter after w next.end) (sym c.as_slice-in-Next.ensures)
    (can_end p path.when forms next.when lefts c.requires.known c.requires.first.parts own c.requires.second.parts left possible after both.1 next.end c.requires.second.end)

pub returns : goal.returns
returns c =
    let p : ScriptPlan = script_plan c.args._plan.now in
    let path : Path = c.args.path in
    let next : Path = c.args.next.now in
    let forms : List Form = c.in-Next.forms in
    let lefts : List Part = c.narrow_all.new.when in
    let after : List Form = c.in_ok-after-in-Next.after in
    let end : PathEnd = c.in_ok-end-in-Next.end in
    let own : FormsFit p path.when forms = forms_fit_next p path forms c.in-Next.is c.requires.first in
    let both = c.in_ok-after-in-Next.ensures in
    let left : AreLeft forms next.when path.when lefts = subst (λ (ns : List Part). AreLeft forms ns path.when lefts) c.as_slice.ensures both.0 in
    let possible = possible_next (test_truth p.tests) path next forms c.in-Next.is c.requires.possible in
    let ends : EndsAfter after lefts next.end end = subst (λ (w : List Part). EndsAfter after w next.end end) c.as_slice-in-Next.ensures c.in_ok-end-in-Next.ensures in
    let is : IsEndAfter p lefts forms next.end end = end_is p path.when forms next.when lefts c.requires.known c.requires.first.parts own c.requires.second.parts left possible after both.1 next.end end c.requires.second.end ends in
    let whole : IsFollowed p (record { when = path.when; end = Next forms }) next (record { when = lefts; end = end }) = path_is p path.when forms next.when lefts c.requires.known c.requires.first.parts own c.requires.second.parts left possible next end refl is in
    followed_path p path next (record { when = lefts; end = end }) forms c.in-Next.is whole
