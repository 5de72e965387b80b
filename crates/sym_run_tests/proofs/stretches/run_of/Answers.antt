use Rattle.sym_table.proofs.Stepping.{one_chunk}
use Rattle.sym_run_tests.proofs.stretches.run_of.Goals as goal

pub take-requires-clause-rows : goal.take-requires-clause-rows
take-requires-clause-rows c = λ none.
    one_chunk c.in_ok-cursor.cursor c.from_ref.result.now c.index-chunks-number.result c.in_ok-cursor.ensures c.from_ref.ensures.value
