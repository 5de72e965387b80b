use Rattle.sym_check.specs.Checking.CheckedScripts.{checked_plan}
use Rattle.sym_run.specs.Applying.{AreValid}
use Rattle.sym_file_tests.proofs.taking.take_all.Given as goal

abbrev pub invariant-parts : goal.invariant-parts
invariant-parts l = AreValid (checked_plan l.checked) l.totals
