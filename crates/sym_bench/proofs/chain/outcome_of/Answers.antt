use Rattle.std.proofs.Common.{◌+◌, drop}
use Rattle.sym_base.specs.declared.values.state.Outcome.TheVariants.{Going}
use Rattle.sym_check.specs.Checking.CheckedScripts.{checked_plan}
use Rattle.sym_check.specs.Meaning.Updates.{after, initial}
use Rattle.sym_bench.proofs.ChainLemmas.{led_on, next_stands, led_last, led_all}
use Rattle.sym_bench.proofs.chain.outcome_of.Goals as goal

pub led-requires-clause-stands : goal.led-requires-clause-stands
led-requires-clause-stands c =
    let p = checked_plan c.args.checked.now in
    let h = c.requires.1 in
    let ahead = next_stands p c.args.chain.now.whole.items c.segments.segment-index c.segment-item.result c.segments.outcome (after p h.first (Going (initial p))) (rw c.deref-segment-items.ensures.value at c.segments-test.true) (rw c.deref-segment-items.ensures.value at c.segment-item.is) (c.segments.invariant.led c.requires.0 h) in
    (ahead.stand.0, ahead.stand.3)

pub segments-preserved : goal.segments-preserved
segments-preserved c =
    let p = checked_plan c.args.checked.now in
    let segments = c.args.chain.now.whole.items in
    let i = c.segments.segment-index in
    record {
      valid = c.in_ok-outcome.ensures.valid;
      led = λ records h.
          let end = after p h.first (Going (initial p)) in
          led_on p c.segment-item.result (drop (i + 1) segments) c.segments.outcome c.in_ok-outcome.outcome end
          (next_stands p segments i c.segment-item.result c.segments.outcome end (rw c.deref-segment-items.ensures.value at c.segments-test.true) (rw c.deref-segment-items.ensures.value at c.segment-item.is) (c.segments.invariant.led records h))
          c.in_ok-outcome.ensures.value;
    }

pub returns-in-Some : goal.returns-in-Some
returns-in-Some c = λ records h.
    let p = checked_plan c.args.checked.now in
    led_last p records c.args.chain.now c.in-Some.segment c.segments.segment-index (Going (initial p)) c.segments.outcome c.led-in-Some.result h c.in-Some.is (rw c.deref-segment-items.ensures.value at c.segments-test.false) (c.segments.invariant.led records h) c.led-in-Some.ensures.value

pub returns-in-None : goal.returns-in-None
returns-in-None c = λ records h.
    let p = checked_plan c.args.checked.now in
    led_all p records c.args.chain.now c.segments.segment-index (Going (initial p)) c.segments.outcome h c.in-None.is (rw c.deref-segment-items.ensures.value at c.segments-test.false) (c.segments.invariant.led records h)
