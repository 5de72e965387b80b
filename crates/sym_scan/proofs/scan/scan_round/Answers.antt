use Rattle.std.proofs.Common.{◌≡◌, IfOk, List, subst}
use Rattle.sym_check.specs.Checking.CheckedScripts.{checked_plan}
use Rattle.sym_check.specs.contracts.checked.accepted.Checked.{the_type as checked}
use Rattle.sym_table.specs.declared.chunk.Chunk.{Chunk}
use Rattle.sym_table.specs.ChunkRecords.{all_records}
use Rattle.sym_scan.specs.Scans.{scanned_to}
use Rattle.sym_check.proofs.CheckedShared.{checked_sync}
use Rattle.sym_scan.proofs.ScanLaws.{scan_traces}
use Rattle.sym_scan.proofs.scan.scan_round.Goals as goal

pub scan_parts-requires-sync-S : goal.scan_parts-requires-sync-S
scan_parts-requires-sync-S g c κs within = record { shared = λ x. checked_sync.shared (checked.to x) }

pub returns-clause-trace : goal.returns-clause-trace
returns-clause-trace g c = λ before same.
    let p = checked_plan c.args.checked.now in
    scan_traces p c.args.every c.args.groups before (all_records p c.args.chunks.now) c.scan_parts.result same
    (subst (λ (chunks : List Chunk). IfOk c.scan_parts.result (λ s. s ≡ scanned_to p c.args.every c.args.groups (all_records p chunks))) c.as_slice-chunks.ensures c.scan_parts.ensures.scanned)

pub returns-then-workers-eq1-clause-trace : goal.returns-then-workers-eq1-clause-trace
returns-then-workers-eq1-clause-trace g c = λ before same.
    let p = checked_plan c.args.checked.now in
    scan_traces p c.args.every c.args.groups before (all_records p c.args.chunks.now) c.scan_alone.result same
    (subst (λ (chunks : List Chunk). IfOk c.scan_alone.result (λ s. s ≡ scanned_to p c.args.every c.args.groups (all_records p chunks))) c.as_slice-chunks.ensures c.scan_alone.ensures.scanned)
