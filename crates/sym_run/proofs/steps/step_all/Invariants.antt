-- The records so far have made their steps.
use Rattle.std.proofs.Common.{◌≡◌, take}
use Rattle.sym_check.specs.Checking.CheckedScripts.{checked_plan}
use Rattle.sym_check.specs.Meaning.Updates.{after}
use Rattle.sym_check.specs.Meaning.Validity.{IsValidOutcome}
use Rattle.sym_run.proofs.steps.step_all.Given as goal

abbrev pub invariant-records : goal.invariant-records
invariant-records l =
    let p = checked_plan l.fn.checked in
    record {
      valid : IsValidOutcome p l.outcome;
      led : l.outcome ≡ after p (take l.index l.fn.kept) l.fn.outcome;
    }
