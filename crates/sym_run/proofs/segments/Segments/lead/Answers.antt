use Rattle.sym_check.specs.Checking.CheckedScripts.{checked_plan}
use Rattle.sym_check.specs.Meaning.Updates.{after}
use Rattle.sym_run.proofs.ChainLeads.{led_further}
use Rattle.sym_run.proofs.segments.Segments.lead.Goals as goal

pub segments-preserved : goal.segments-preserved
segments-preserved c =
    let p = checked_plan c.args.checked.now in
    record {
      valid = c.in_ok-lead.ensures.valid;
      led = λ records h.
          led_further p c.as_slice-segment-items.result.now c.segments.segment-index c.segment-item.result c.segments.outcome c.lead.new.outcome (after p records c.args.outcome.now)
          c.segments-test.true c.segment-item.is (c.segments.invariant.led records h) c.in_ok-lead.ensures.value;
    }
