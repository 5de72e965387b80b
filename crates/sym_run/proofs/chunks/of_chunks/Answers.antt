use Rattle.std.proofs.Common.{◌≡◌, ◌∙◌, ◌<◌, ◌≤◌, ◌+◌, ℕ, List, Ok, Some, length, refl, ap, arith, subst, sym, take}
use Rattle.std.proofs.lemmas.Option.{slice_get_read}
use Rattle.std.specs.Prelude.{slice_get}
use Rattle.sym_base.specs.declared.values.record.Record.{Record}
use Rattle.sym_check.specs.Checking.CheckedScripts.{checked_plan}
use Rattle.sym_path.proofs.Lists.{take_past}
use Rattle.sym_table.specs.declared.chunk.Chunk.{Chunk}
use Rattle.sym_table.specs.ChunkRecords.{all_records, chunk_records}
use Rattle.sym_run.specs.Runs.{GroupsAreExtended}
use Rattle.sym_run.proofs.FoundRecords.{in_turn_ok, records_more, run_good, run_tight}
use Rattle.sym_run.proofs.chunks.of_chunks.Goals as goal

pub extend-requires-clause-tight : goal.extend-requires-clause-tight
extend-requires-clause-tight c = λ none. run_tight (checked_plan c.args.checked.now) c.args.limit c.args.chunks.now c.chunks.run c.chunks.invariant.stands none

pub chunks-preserved : goal.chunks-preserved
chunks-preserved c =
    let within : c.chunks.number < length c.args.chunks.now = omega arith in
    let at : slice_get c.args.chunks.now c.chunks.number ≡ Some c.index-chunks-number.result = slice_get_read c.args.chunks.now (length c.args.chunks.now) c.chunks.number c.index-chunks-number.result refl within c.index-chunks-number.is in
    record {
      ends = record {
        from = c.in_ok-run-2.ensures.chunks.from ∙ c.chunks.invariant.ends.from;
        to = c.in_ok-run-2.ensures.chunks.to ∙ ap (λ (n : ℕ). n + 1) c.chunks.invariant.ends.to;
      };
      stands = c.in_ok-run-2.ensures.stands c.args.chunks.now c.chunks.invariant.stands (ap (slice_get c.args.chunks.now) c.chunks.invariant.ends.to ∙ at);
      closed = c.in_ok-run-2.ensures.closed c.chunks.invariant.closed;
      extended = λ records all.
          let p = checked_plan c.args.checked.now in
          let chunks : List Chunk = c.args.chunks.now in
          let now = c.index-chunks-number.result in
          let cut = in_turn_ok (all_records p (take c.chunks.number chunks)) (chunk_records p now) records (sym (records_more p chunks c.chunks.number now at) ∙ all) in
          let good = run_good p c.args.limit chunks c.chunks.number c.chunks.run cut.0 c.chunks.invariant.stands c.chunks.invariant.ends cut.2 in
          subst (λ (rs : List Record). GroupsAreExtended p c.args.limit rs c.in_ok-run-2.run'.groups) (sym cut.4)
          (c.in_ok-run-2.ensures.extends cut.0 cut.1 good cut.3 (c.chunks.invariant.extended cut.0 cut.2));
    }

pub returns-clause-extends : goal.returns-clause-extends
returns-clause-extends c = λ records all.
    let p = checked_plan c.args.checked.now in
    let chunks : List Chunk = c.args.chunks.now in
    let past : length chunks ≤ c.chunks.number = omega (arith, c.chunks-test.false) in
    c.chunks.invariant.extended records (subst (λ (cs : List Chunk). all_records p cs ≡ Ok records) (sym (take_past chunks c.chunks.number past)) all)
