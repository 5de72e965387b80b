use Rattle.sym_check.specs.Checking.CheckedScripts.{checked_plan}
use Rattle.sym_run.proofs.FoundRecords.{run_tight}
use Rattle.sym_run_tests.proofs.orders.+joined.Goals as goal

pub join-requires-clause-tight : goal.join-requires-clause-tight
join-requires-clause-tight t c = λ a b.
    let p = checked_plan c.args.checked.now in (
      run_tight p c.args.limit c.args.chunks.now c.in_ok-first.first c.in_ok-first.ensures.stands a,
      run_tight p c.args.limit c.args.chunks.now c.in_ok-second.second c.in_ok-second.ensures.stands b,
    )
