-- The segments that are left lead the outcome to the same.
use Rattle.std.proofs.Common.{◌≡◌, drop}
use Rattle.sym_check.specs.Checking.CheckedScripts.{checked_plan}
use Rattle.sym_check.specs.Meaning.Conditions.{test_truth}
use Rattle.sym_check.specs.Meaning.Validity.{IsValidOutcome}
use Rattle.sym_file.specs.Totals.{led_in_turn}
use Rattle.sym_file.proofs.totals.lead_through.Given as goal

abbrev pub invariant-segments : goal.invariant-segments
invariant-segments l =
    let truth = test_truth (checked_plan l.fn.checked).tests in
    record {
      valid : IsValidOutcome (checked_plan l.fn.checked) l.outcome;
      led : led_in_turn truth (drop l.segment-index l.segment-items) l.outcome ≡ led_in_turn truth l.fn.chain.segments l.fn.outcome;
    }
