use Rattle.std.proofs.Common.{subst, sym}
use Rattle.sym_check.specs.Checking.CheckedScripts.{checked_plan}
use Rattle.sym_run.specs.declared.runs.Run.{Run}
use Rattle.sym_run.specs.Runs.{GroupsFit}
use Rattle.sym_run_tests.proofs.beside.differs_by.Goals as goal

pub apply-requires-clause-fits : goal.apply-requires-clause-fits
apply-requires-clause-fits g c = subst (λ (run : Run). GroupsFit (checked_plan c.args.checked.now) run.groups) (sym c.in_ok-copy.ensures) c.requires.fits

pub apply_by-requires-clause-fits : goal.apply_by-requires-clause-fits
apply_by-requires-clause-fits g c κs within = subst (λ (run : Run). GroupsFit (checked_plan c.args.checked.now) run.groups) (sym c.in_ok-copy-3.ensures) c.requires.fits
