-- The segments so far have led the outcome on.
use Rattle.std.proofs.Common.{List, drop}
use Rattle.sym_base.specs.declared.values.record.Record.{Record}
use Rattle.sym_check.specs.Checking.CheckedScripts.{checked_plan}
use Rattle.sym_check.specs.Meaning.Updates.{after}
use Rattle.sym_check.specs.Meaning.Validity.{IsValidOutcome}
use Rattle.sym_run.specs.Chains.{SegmentsStandFor}
use Rattle.sym_run.proofs.ChainLeads.{IsLed}
use Rattle.sym_run.proofs.segments.Segments.lead.Given as goal

abbrev pub invariant-segments : goal.invariant-segments
invariant-segments l =
    let p = checked_plan l.fn.checked in
    record {
      valid : IsValidOutcome p l.outcome;
      led : (records : List Record) → SegmentsStandFor p records l.fn.self → IsLed p (drop l.segment-index l.segment-items) l.outcome (after p records l.fn.outcome);
    }
