use Rattle.std.proofs.Common.{◌∙◌, ap, arith}
use Rattle.std.proofs.lemmas.Option.{slice_get_within}
use Rattle.std.specs.Prelude.{slice_get}
use Rattle.sym_check.specs.Checking.CheckedScripts.{checked_plan}
use Rattle.sym_table.proofs.Stepping.{one_chunk}
use Rattle.sym_run_tests.proofs.setting.stretched.Goals as goal

pub take-requires-clause-rows : goal.take-requires-clause-rows
take-requires-clause-rows c = λ none.
    one_chunk c.in_ok-cursor.cursor c.from_ref.result.now c.args.chunk.now c.in_ok-cursor.ensures c.from_ref.ensures.value

pub returns-clause-stands : goal.returns-clause-stands
returns-clause-stands c = λ chunks at.
    let p = checked_plan c.args.checked.now in
    let within = slice_get_within chunks c.args.number c.args.chunk.now at in
    c.finish.ensures.stands chunks
    (c.in_ok-take.ensures.stands chunks
    (c.new-stretch.ensures.stands p c.args.limit chunks (omega arith))
    (ap (slice_get chunks) c.new-stretch.ensures.chunks.to ∙ at))
