use Rattle.std.proofs.Common.{subst, sym}
use Rattle.sym_check.specs.Checking.CheckedScripts.{checked_plan}
use Rattle.sym_run.specs.Runs.{GroupsFit}
use Rattle.sym_run.proofs.runs.Run.apply.Goals as goal

pub apply_all-requires-clause-fits : goal.apply_all-requires-clause-fits
apply_all-requires-clause-fits c = subst (GroupsFit (checked_plan c.args.checked.now)) (sym c.in-Ok.ensures.chains) c.requires.fits
