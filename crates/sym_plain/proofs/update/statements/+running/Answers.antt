use Rattle.sym_check.specs.Plan.DoPlans.{do_plan}
use Rattle.sym_plain.proofs.Locals.{kept_on}
use Rattle.sym_plain.proofs.update.statements.+running.Goals as goal

pub run_all-returns-in-More-deref-clause-locals :
    goal.run_all-returns-in-More-deref-clause-locals
run_all-returns-in-More-deref-clause-locals t c =
    kept_on c.run_all.result c.args.rec.now c.args.buffers.now.locals c.run.new.buffers.locals c.run_all.new.buffers.locals
    (do_plan c.deref.result.now) c.in_ok-run-in-More.ensures.locals c.run_all.ensures.locals
