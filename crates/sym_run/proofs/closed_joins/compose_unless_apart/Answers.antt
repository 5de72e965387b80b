use Rattle.std.proofs.Common.{◌≡◌, false, refl, subst}
use Rattle.std.proofs.lemmas.Result.{IfOk-weaker}
use Rattle.sym_check.specs.Checking.CheckedScripts.{checked_plan}
use Rattle.sym_check.specs.Plan.WellFormed.{IsWellFormed}
use Rattle.sym_path.specs.Within.{IsComposedWithin}
use Rattle.sym_run.specs.ClosedJoins.{IsComposedUnlessApart}
use Rattle.sym_run.proofs.PairsThere.{pair_there, unless_apart}
use Rattle.sym_run.proofs.closed_joins.compose_unless_apart.Goals as goal

pub returns-then-not-have_pairs : goal.returns-then-not-have_pairs
returns-then-not-have_pairs c =
    let p = checked_plan c.args.checked.now in
    let formed : IsWellFormed p = subst IsWellFormed c.plan-plan.ensures.same c.plan-plan.ensures.well_formed in
    let t = c.if-not-have_pairs.true in
    let none : c.have_pairs.result ≡ false = cc in
    (refl, refl, λ before rest l r. absurd (pair_there p before rest c.args.left c.args.right formed l r (c.have_pairs.ensures none)))

pub returns : goal.returns
returns c =
    let p = checked_plan c.args.checked.now in
    IfOk-weaker c.compose_within.result (IsComposedWithin p c.args.left c.args.right c.args.limit) (IsComposedUnlessApart p c.args.left c.args.right c.args.limit)
    (unless_apart p c.args.left c.args.right c.args.limit) c.compose_within.ensures
