use Rattle.std.proofs.Common.{◌≡◌, ◌∙◌, ◌<◌, ℕ, Some, length, refl, arith}
use Rattle.std.proofs.lemmas.Option.{slice_get_read}
use Rattle.std.specs.Prelude.{slice_get}
use Rattle.sym_check.specs.Checking.CheckedScripts.{checked_plan}
use Rattle.sym_run.proofs.FoundRecords.{run_tight}
use Rattle.sym_bench.proofs.passes.joined_run.Goals as goal

pub join-requires-clause-tight : goal.join-requires-clause-tight
join-requires-clause-tight c = λ a b.
    let p = checked_plan c.args.checked.now in
    let within : c.chunks.number < length c.args.chunks.now = omega arith in
    let at : slice_get c.args.chunks.now c.chunks.number ≡ Some c.index-chunks-number.result = slice_get_read c.args.chunks.now (length c.args.chunks.now) c.chunks.number c.index-chunks-number.result refl within c.index-chunks-number.is in (
      run_tight p c.args.limit c.args.chunks.now c.chunks.run c.chunks.invariant.stands a,
      run_tight p c.args.limit c.args.chunks.now c.in_ok-next.next (c.in_ok-next.ensures.stands c.args.chunks.now at) b,
    )

pub chunks-preserved : goal.chunks-preserved
chunks-preserved c =
    let within : c.chunks.number < length c.args.chunks.now = omega arith in
    let at : slice_get c.args.chunks.now c.chunks.number ≡ Some c.index-chunks-number.result = slice_get_read c.args.chunks.now (length c.args.chunks.now) c.chunks.number c.index-chunks-number.result refl within c.index-chunks-number.is in
    record {
      ends = record {
        from = c.in_ok-run-2.ensures.chunks.from ∙ c.chunks.invariant.ends.from;
        to = c.in_ok-run-2.ensures.chunks.to ∙ c.in_ok-next.ensures.chunks.to;
      };
      stands = c.in_ok-run-2.ensures.stands c.args.chunks.now c.chunks.invariant.stands (c.in_ok-next.ensures.stands c.args.chunks.now at);
    }
