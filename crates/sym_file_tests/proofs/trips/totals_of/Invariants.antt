use Rattle.sym_check.specs.Checking.CheckedScripts.{checked_plan}
use Rattle.sym_run.specs.Applying.{AreValid}
use Rattle.sym_file_tests.proofs.trips.totals_of.Given as goal

abbrev pub invariant-chunks : goal.invariant-chunks
invariant-chunks l = AreValid (checked_plan l.checked) l.totals
