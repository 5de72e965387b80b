use Rattle.std.proofs.Common.{subst, sym}
use Rattle.sym_check.specs.Checking.CheckedScripts.{checked_plan}
use Rattle.sym_files.specs.declared.rounds.Work.{Work}
use Rattle.sym_run.specs.Runs.{AreTight, GroupsFit}
use Rattle.sym_workers_tests.proofs.Answered.{part_fits, part_tight}
use Rattle.sym_workers_tests.proofs.bodies.two_parts.Goals as goal

pub join-requires-clause-left : goal.join-requires-clause-left
join-requires-clause-left g c =
    let L : Work → Type 0 = λ w. GroupsFit (checked_plan w.checked) c.in_ok-left.left.groups in
    subst L (sym c.work-work.ensures) (part_fits (g.W.LendsWork.lent c.args.lender.now) _ _ c.join-left.result.0 c.in_ok-left.left c.in_ok-left.was c.join-left.ensures.first)

pub join-requires-clause-right : goal.join-requires-clause-right
join-requires-clause-right g c =
    let R : Work → Type 0 = λ w. GroupsFit (checked_plan w.checked) c.in_ok-right.right.groups in
    subst R (sym c.work-work.ensures) (part_fits (g.W.LendsWork.lent c.args.lender.now) _ _ c.join-left.result.1 c.in_ok-right.right c.in_ok-right.was c.join-left.ensures.second)

pub join-requires-clause-tight : goal.join-requires-clause-tight
join-requires-clause-tight g c = λ a b.
    let lent = g.W.LendsWork.lent c.args.lender.now in
    let L : Work → Type 0 = λ w. AreTight (checked_plan w.checked) w.limit c.in_ok-left.left.groups in
    let R : Work → Type 0 = λ w. AreTight (checked_plan w.checked) w.limit c.in_ok-right.right.groups in (
      subst L (sym c.work-work.ensures) (part_tight lent _ _ c.join-left.result.0 c.in_ok-left.left c.in_ok-left.was c.join-left.ensures.first a),
      subst R (sym c.work-work.ensures) (part_tight lent _ _ c.join-left.result.1 c.in_ok-right.right c.in_ok-right.was c.join-left.ensures.second b),
    )
