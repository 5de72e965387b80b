use Rattle.std.proofs.Common.{◌≡◌, ◌∙◌, ◌+◌, List, drop, subst, sym}
use Rattle.sym_base.specs.declared.values.state.Outcome.{Outcome}
use Rattle.sym_check.specs.Checking.CheckedScripts.{checked_plan}
use Rattle.sym_shuffle.specs.Settled.{Holds, led_all}
use Rattle.sym_shuffle.specs.declared.batch.Batch.{Batch}
use Rattle.sym_shuffle.proofs.RecordsInTurn.{all_next, read_there, zip_beside}
use Rattle.sym_shuffle.proofs.led_batches.lead_part.Goals as goal

pub batches-preserved : goal.batches-preserved
batches-preserved c = λ keys records held.
    let p = checked_plan c.args.script.now.checked.now in
    let marks = c.args.script.now.marks.now in
    let batches : List Batch = c.args.batches.now in
    let batch : Batch = c.batch-item.result in
    let i = c.batches.batch-index in
    let here = c.batches.invariant keys records held in
    let beside = zip_beside (Holds p marks keys) records batches i batch held c.batches-test.true in
    let holds : Holds p marks keys beside.one batch = subst (λ (b : Batch). Holds p marks keys beside.one b) (sym c.batch-item.is) beside.is in
    record {
      blank = c.in_ok-lead_batch.ensures.blank keys beside.one holds here.blank;
      steps =
          subst (λ (now : List Outcome). led_all p c.args.start (drop (i + 1) batches) (drop (i + 1) records) now ≡ led_all p c.args.start batches records c.args.outcomes.now) (sym (c.in_ok-lead_batch.ensures.led keys beside.one holds here.blank))
          (sym (all_next p c.args.start batches records i batch beside.one c.batches.outcomes (read_there batches i batch c.batches-test.true c.batch-item.is) beside.at) ∙ here.steps);
    }
