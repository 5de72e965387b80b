use Rattle.std.proofs.Common.{◌≡◌, ◌∙◌, ◌<◌, ℕ, ◌+◌, Some, ap, arith, length, slice_get}
use Rattle.sym_check.specs.Checking.CheckedScripts.{checked_plan}
use Rattle.sym_run.proofs.FoundRecords.{run_tight}
use Rattle.sym_workers.proofs.RoundRuns.{chunk_at}
use Rattle.sym_workers_tests.proofs.bodies.part.Goals as goal

pub extend-requires-clause-tight : goal.extend-requires-clause-tight
extend-requires-clause-tight g c = λ none.
    run_tight (checked_plan c.args.work.now.checked) c.args.work.now.limit c.args.work.now.chunks c.chunks.run c.chunks.invariant.stands none

pub chunks-preserved : goal.chunks-preserved
chunks-preserved g c =
    let cuts = c.args.work.now.chunks in
    let items = c.as_slice-chunks.result.now in
    let near : c.chunks.number < length items = omega (arith, c.chunks-test.true, c.requires.within, ap length c.as_slice-chunks.ensures) in
    let at : slice_get cuts c.chunks.number ≡ Some c.index-chunks-number.result =
    chunk_at cuts items c.chunks.number c.index-chunks-number.result c.as_slice-chunks.ensures near c.index-chunks-number.is in
    record {
      ends = record {
        from = c.in_ok-run-2.ensures.chunks.from ∙ c.chunks.invariant.ends.from;
        to = c.in_ok-run-2.ensures.chunks.to ∙ ap (λ (n : ℕ). n + 1) c.chunks.invariant.ends.to;
      };
      stands = c.in_ok-run-2.ensures.stands cuts c.chunks.invariant.stands (ap (slice_get cuts) c.chunks.invariant.ends.to ∙ at);
    }
