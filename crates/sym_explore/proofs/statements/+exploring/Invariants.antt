-- Each call is of a smaller part of the update, or of the same part by a later function.
use Rattle.std.proofs.Common.{◌+◌, ◌*◌}
use Rattle.sym_check.specs.Plan.DoPlans.{do_plan, dos_plan}
use Rattle.sym_explore.proofs.Sizes.{do_size, dos_size}
use Rattle.sym_explore.proofs.statements.+exploring.Given as goal

abbrev pub decreases-run_all : goal.decreases-run_all
decreases-run_all l = 4 * dos_size (dos_plan l.statements.now)

abbrev pub decreases-run_block : goal.decreases-run_block
decreases-run_block l = 4 * dos_size (dos_plan l.statements.now) + 1

abbrev pub decreases-run : goal.decreases-run
decreases-run l = 4 * do_size (do_plan l.statement.now) + 3

abbrev pub decreases-choose : goal.decreases-choose
decreases-choose l = 4 * (dos_size (dos_plan l.choice.now.then.now) + dos_size (dos_plan l.choice.now.otherwise.now) + 1) + 2
