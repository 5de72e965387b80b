use Rattle.std.proofs.Common.{IfOk, List, subst}
use Rattle.sym_check.specs.Checking.CheckedScripts.{checked_plan}
use Rattle.sym_table.specs.declared.chunk.Chunk.{Chunk}
use Rattle.sym_files.specs.contracts.rounds.Work.{the_type as work}
use Rattle.sym_workers.specs.RoundRuns.{StandsForAll}
use Rattle.sym_files.proofs.WorkShared.{work_fields}
use Rattle.sym_files.proofs.PlainRows.{plain_chunks}
use Rattle.sym_workers_tests.proofs.bodies.made.Goals as goal

pub two_parts-requires-sync-W : goal.two_parts-requires-sync-W
two_parts-requires-sync-W g c κs within = record { shared = λ x. work_fields.shared (work.to x) }

pub returns-in-Gate : goal.returns-in-Gate
returns-in-Gate g c =
    let round = c.args.work.now in
    let P : List Chunk → Type 0 = λ chunks. IfOk c.work_round.result (StandsForAll (checked_plan round.checked) round.limit chunks) in
    subst P (plain_chunks round.chunks) c.work_round.ensures
