use Rattle.std.proofs.Common.{IfOk, List, subst, sym}
use Rattle.sym_check.specs.Checking.CheckedScripts.{checked_plan}
use Rattle.sym_table.specs.declared.chunk.Chunk.{Chunk}
use Rattle.sym_workers.specs.RoundRuns.{StandsForAll}
use Rattle.sym_files.proofs.PlainRows.{plain_chunks}
use Rattle.sym_workers.proofs.gates.OpenGateGate.work_round.Goals as goal

pub returns : goal.returns
returns g c =
    let work = c.args.work.now in
    let P : List Chunk → Type 0 = λ chunks. IfOk c.hold_round.result (StandsForAll (checked_plan work.checked) work.limit chunks) in
    subst P (sym (plain_chunks work.chunks)) c.hold_round.ensures
