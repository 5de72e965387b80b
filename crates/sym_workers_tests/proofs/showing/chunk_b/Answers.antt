use Rattle.sym_workers_tests.proofs.Shown.{chunk_shown}
use Rattle.sym_workers_tests.proofs.showing.chunk_b.Goals as goal

pub returns : goal.returns
returns c =
    chunk_shown c.args.chunk.now c.in_ok-copy.field-0 c.in_ok-rows_b.field-0 c.len.result c.in_ok-copy.ensures c.len.ensures c.in_ok-rows_b.ensures
