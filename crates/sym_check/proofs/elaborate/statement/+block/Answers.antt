-- A statement that declares nothing is planned as it is anywhere.
use Rattle.sym_check.proofs.elaborate.statement.+block.Goals as goal

pub statement-returns-in-Set-clause-plan : goal.statement-returns-in-Set-clause-plan
statement-returns-in-Set-clause-plan t c = rw c.in-Set.is (c.set.ensures c.args.hidden.now c.args.next.now)

pub statement-returns-in-Push-clause-plan : goal.statement-returns-in-Push-clause-plan
statement-returns-in-Push-clause-plan t c = rw c.in-Push.is (c.push.ensures c.args.hidden.now c.args.next.now)

pub statement-returns-in-Keep-clause-plan : goal.statement-returns-in-Keep-clause-plan
statement-returns-in-Keep-clause-plan t c = rw c.in-Keep.is (c.keep.ensures c.args.hidden.now c.args.next.now)

pub statement-returns-in-KeepFrom-clause-plan : goal.statement-returns-in-KeepFrom-clause-plan
statement-returns-in-KeepFrom-clause-plan t c = rw c.in-KeepFrom.is (c.keep_from.ensures c.args.hidden.now c.args.next.now)
