use Rattle.std.proofs.Common.{◌≡◌, IfOk, List, subst, sym}
use Rattle.sym_check.specs.Checking.CheckedScripts.{checked_plan}
use Rattle.sym_table.specs.ChunkRecords.{all_records}
use Rattle.sym_table.specs.declared.chunk.Chunk.{Chunk}
use Rattle.sym_run.specs.Applying.{applied_to}
use Rattle.sym_files.proofs.PlainRows.{plain_chunks}
use Rattle.sym_workers.proofs.gates.OpenGateGate.lead_round.Goals as goal

pub returns-clause-applied : goal.returns-clause-applied
returns-clause-applied g c =
    let work = c.args.work.now in
    let p = checked_plan work.checked in
    let P : List Chunk → Type 0 = λ chunks. IfOk c.hold_lead.result (λ applied. applied ≡ applied_to p (all_records p chunks) c.args.groups) in
    subst P (sym (plain_chunks work.chunks)) c.hold_lead.ensures.applied
