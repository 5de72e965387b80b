use Rattle.std.proofs.Common.{subst, sym}
use Rattle.sym_check.specs.Checking.CheckedScripts.{checked_plan}
use Rattle.sym_run.specs.declared.runs.Run.{Run}
use Rattle.sym_run.specs.Runs.{GroupsFit}
use Rattle.sym_bench.proofs.passes.led_by.Goals as goal
use Rattle.sym_bench.proofs.passes.led_by.Goals.{then-joins+in_ok-run, else-joins+in_ok-run-2}

pub apply-requires-clause-fits : goal.apply-requires-clause-fits
apply-requires-clause-fits c =
    let Fit : Run → Type 0 = λ run. GroupsFit (checked_plan c.args.checked.now) run.groups in
    elim c.if-joins.branch [
      | then-joins+in_ok-run w ↦ subst Fit (sym w.run-is) w.in_ok-run.ensures.fits
      | else-joins+in_ok-run-2 w ↦ subst Fit (sym w.run-is) w.in_ok-run-2.ensures.stands.fits
    ]
