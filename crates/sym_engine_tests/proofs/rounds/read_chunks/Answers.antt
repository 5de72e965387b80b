use Rattle.std.specs.Option.{unwrap_or}
use Rattle.sym_check.specs.Checking.CheckedScripts.{checked_plan}
use Rattle.sym_files.specs.Rounds.{round_records}
use Rattle.sym_engine_tests.proofs.Noting.{chunk_read, read_begins}
use Rattle.sym_engine_tests.proofs.rounds.read_chunks.Goals as goal

pub chunks-init : goal.chunks-init
chunks-init c = read_begins (round_records (checked_plan c.args.checked.now) (unwrap_or c.args.one.now) c.args.chunks.now)

pub chunks-preserved : goal.chunks-preserved
chunks-preserved c =
    let p = checked_plan c.args.checked.now in
    let shown = unwrap_or c.args.one.now in
    chunk_read p shown c.args.chunks.now c.chunks.chunk-index c.chunk-item.result c.in_ok-read_chunk.field-0 (round_records p shown c.args.chunks.now)
    c.chunks-test.true c.chunk-item.is c.in-Done.is c.in_ok-read_chunk.ensures c.chunks.invariant
