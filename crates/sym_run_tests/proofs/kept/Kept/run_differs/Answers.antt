use Rattle.std.proofs.Common.{subst, sym}
use Rattle.sym_check.specs.Checking.CheckedScripts.{checked_plan}
use Rattle.sym_run.specs.declared.runs.Run.{Run}
use Rattle.sym_run.specs.Runs.{GroupsFit}
use Rattle.sym_run_tests.proofs.kept.Kept.run_differs.Goals as goal

pub gives_others-requires : goal.gives_others-requires
gives_others-requires c = subst (λ (run : Run). GroupsFit (checked_plan c.args.checked.now) run.groups) (sym c.in_ok-copy.ensures) c.requires
