use Rattle.std.proofs.Common.{length, subst, sym}
use Rattle.std.specs.List.{All}
use Rattle.sym_check.specs.declared.checked.accepted.Checked.{Checked}
use Rattle.sym_check.specs.Checking.CheckedScripts.{checked_plan}
use Rattle.sym_table.specs.ChunkRecords.{all_records}
use Rattle.sym_run.specs.Runs.{GroupsFit}
use Rattle.sym_scan.specs.declared.part_starts.AllStarted.{AllStarted}
use Rattle.sym_scan.specs.Parts.{AreRuns, StartsAll}
use Rattle.sym_scan.proofs.PartLaws.{runs_fit}
use Rattle.sym_scan.proofs.ScanLaws.{all_ready, scan_bad, scan_done}
use Rattle.sym_scan.proofs.scan.scan_parts.Goals as goal

pub start_all-requires-clause-fits : goal.start_all-requires-clause-fits
start_all-requires-clause-fits g c =
    subst (λ (checked : Checked). All (λ ran. GroupsFit (checked_plan checked) ran.run.groups) c.in_ok-runs.runs.items) (sym c.script.ensures)
    (runs_fit (checked_plan (g.S.LendsScript.lent c.args.lender.now)) c.args.options.limit c.args.chunks.now 0 (length c.args.chunks.now) c.in_ok-runs.runs.items c.in_ok-runs.ensures)

pub replay_parts-requires-clause-ready : goal.replay_parts-requires-clause-ready
replay_parts-requires-clause-ready g c κs within =
    let chunks = c.args.chunks.now in
    let p = checked_plan (g.S.LendsScript.lent c.args.lender.now) in
    all_ready p c.args.options.every chunks (all_records p chunks) c.args.groups c.start_all.new.groups c.in-From.parts
    (subst (λ (s : AllStarted). StartsAll p c.args.options.every chunks (all_records p chunks) c.args.groups s c.start_all.new.groups) c.in-From.is
    (subst (λ (checked : Checked). StartsAll (checked_plan checked) c.args.options.every chunks (all_records (checked_plan checked) chunks) c.args.groups c.in_ok-parts-2.field-0 c.start_all.new.groups) c.script.ensures
    (c.in_ok-parts-2.ensures.starts c.args.options.limit c.args.options.every chunks
    (subst (λ (checked : Checked). AreRuns (checked_plan checked) c.args.options.limit chunks 0 (length chunks) c.in_ok-runs.runs.items) (sym c.script.ensures) c.in_ok-runs.ensures))))

pub returns-in_ok-rows-in-From-clause-scanned : goal.returns-in_ok-rows-in-From-clause-scanned
returns-in_ok-rows-in-From-clause-scanned g c =
    let chunks = c.args.chunks.now in
    let p = checked_plan (g.S.LendsScript.lent c.args.lender.now) in
    scan_done p c.args.options.every chunks (all_records p chunks) c.args.groups c.start_all.new.groups c.in-From.parts c.in_ok-rows-in-From.rows
    (subst (λ (s : AllStarted). StartsAll p c.args.options.every chunks (all_records p chunks) c.args.groups s c.start_all.new.groups) c.in-From.is
    (subst (λ (checked : Checked). StartsAll (checked_plan checked) c.args.options.every chunks (all_records (checked_plan checked) chunks) c.args.groups c.in_ok-parts-2.field-0 c.start_all.new.groups) c.script.ensures
    (c.in_ok-parts-2.ensures.starts c.args.options.limit c.args.options.every chunks
    (subst (λ (checked : Checked). AreRuns (checked_plan checked) c.args.options.limit chunks 0 (length chunks) c.in_ok-runs.runs.items) (sym c.script.ensures) c.in_ok-runs.ensures))))
    c.in_ok-rows-in-From.ensures

pub returns-in-Bad-clause-scanned : goal.returns-in-Bad-clause-scanned
returns-in-Bad-clause-scanned g c =
    let chunks = c.args.chunks.now in
    let p = checked_plan (g.S.LendsScript.lent c.args.lender.now) in
    scan_bad p c.args.options.every chunks (all_records p chunks) c.args.groups c.start_all.new.groups c.in-Bad.bad
    (subst (λ (s : AllStarted). StartsAll p c.args.options.every chunks (all_records p chunks) c.args.groups s c.start_all.new.groups) c.in-Bad.is
    (subst (λ (checked : Checked). StartsAll (checked_plan checked) c.args.options.every chunks (all_records (checked_plan checked) chunks) c.args.groups c.in_ok-parts-2.field-0 c.start_all.new.groups) c.script.ensures
    (c.in_ok-parts-2.ensures.starts c.args.options.limit c.args.options.every chunks
    (subst (λ (checked : Checked). AreRuns (checked_plan checked) c.args.options.limit chunks 0 (length chunks) c.in_ok-runs.runs.items) (sym c.script.ensures) c.in_ok-runs.ensures))))
