use Rattle.std.proofs.Common.{◌⊎◌, List, refl, sym, subst}
use Rattle.std.specs.List.{All}
use Rattle.sym_int.specs.declared.element.IntForms.{IntForms}
use Rattle.sym_path.specs.declared.part.Part.{Part}
use Rattle.sym_path.specs.declared.form.Form.{Form}
use Rattle.sym_path.specs.declared.path.PathEnd.{PathEnd}
use Rattle.sym_path.specs.declared.path.PathEnd.TheVariants.{Next}
use Rattle.sym_path.specs.FormsAfter.{AddsConstants, IsContext, AllCanComeAfter, AreAfter, CanEndAfter, EndsAfter}
use Rattle.sym_path.proofs.FollowingConstants.{all_come, next_is}
use Rattle.sym_path.proofs.succession.end_after.Goals as goal

pub forms_after-requires : goal.forms_after-requires
forms_after-requires c =
    let forms : List Form = c.args.forms in
    let lefts : List Part = c.args.lefts.now in
    let others : List Form = c.in-Next.others in
    let context : IntForms = c.in_ok-context-in-Next.context in
    let seen : All AddsConstants c.as_slice-in-Next.result.now ⊎ IsContext forms lefts context = subst (λ (fs : List Form). All AddsConstants c.as_slice-in-Next.result.now ⊎ IsContext fs lefts context) c.as_slice.ensures c.in_ok-context-in-Next.ensures in
    let known : All AddsConstants others ⊎ IsContext forms lefts context = subst (λ (gs : List Form). All AddsConstants gs ⊎ IsContext forms lefts context) c.as_slice-in-Next.ensures seen in
    let can : CanEndAfter forms lefts (Next others) = subst (λ (e : PathEnd). CanEndAfter forms lefts e) c.in-Next.is c.requires in
    subst (λ (gs : List Form). AllCanComeAfter forms lefts context gs) (sym c.as_slice-in-Next-2.ensures) (all_come forms lefts context others known can)

pub returns-in_ok-after-in-Next : goal.returns-in_ok-after-in-Next
returns-in_ok-after-in-Next c =
    let forms : List Form = c.args.forms in
    let lefts : List Part = c.args.lefts.now in
    let others : List Form = c.in-Next.others in
    let after : List Form = c.in_ok-after-in-Next.after in
    let context : IntForms = c.in_ok-context-in-Next.context in
    let seen : All AddsConstants c.as_slice-in-Next.result.now ⊎ IsContext forms lefts context = subst (λ (fs : List Form). All AddsConstants c.as_slice-in-Next.result.now ⊎ IsContext fs lefts context) c.as_slice.ensures c.in_ok-context-in-Next.ensures in
    let known : All AddsConstants others ⊎ IsContext forms lefts context = subst (λ (gs : List Form). All AddsConstants gs ⊎ IsContext forms lefts context) c.as_slice-in-Next.ensures seen in
    let become : AreAfter forms lefts context others after = subst (λ (gs : List Form). AreAfter forms lefts context gs after) c.as_slice-in-Next-2.ensures c.in_ok-after-in-Next.ensures in
    subst (λ (e : PathEnd). EndsAfter forms lefts e (Next after)) (sym c.in-Next.is) (next_is forms lefts context others known (Next after) after refl become)
