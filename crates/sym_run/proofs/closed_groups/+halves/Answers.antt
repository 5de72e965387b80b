use Rattle.std.proofs.Common.{◌++◌, List, subst, sym}
use Rattle.sym_check.specs.Checking.CheckedScripts.{checked_plan}
use Rattle.sym_run.specs.Closing.{AreJoinedTo}
use Rattle.sym_run.specs.declared.closed_groups.Joining.{Joining}
use Rattle.sym_run.proofs.ClosingGroups.{joined_both}
use Rattle.sym_run.proofs.closed_groups.+halves.Goals as goal

pub join_each-returns : goal.join_each-returns
join_each-returns g t c =
    let p = checked_plan (g.S.LendsScript.by c.args.lender.now) in
    let cut = c.split_at_mut-front in
    let firsts = c.join_both.new.front in
    let seconds = c.join_both.new.back in
    subst (λ (olds : List Joining). AreJoinedTo p c.args.limit olds (firsts ++ seconds)) (sym cut.ensures.value)
    (joined_both p c.args.limit cut.result.0.now cut.result.1.now firsts seconds c.join_both.ensures.front c.join_both.ensures.back)
