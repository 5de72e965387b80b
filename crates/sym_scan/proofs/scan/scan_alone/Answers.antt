use Rattle.std.proofs.Common.{Option, subst, sym}
use Rattle.sym_check.specs.Checking.CheckedScripts.{checked_plan}
use Rattle.sym_check.specs.Plan.WellFormed.{IsWellFormed}
use Rattle.sym_table.specs.ChunkRecords.{all_records}
use Rattle.sym_table.specs.declared.bad.Bad.{Bad as BadRow}
use Rattle.sym_run.specs.Applying.{AreValid}
use Rattle.sym_scan.specs.Replays.{GoesOn}
use Rattle.sym_scan.proofs.ScanLaws.{alone_bad, alone_done, alone_valid}
use Rattle.sym_scan.proofs.scan.scan_alone.Goals as goal

pub returns-in-Some-clause-scanned : goal.returns-in-Some-clause-scanned
returns-in-Some-clause-scanned c =
    let p = checked_plan c.args.checked.now in
    let found = all_records p c.args.chunks.now in
    alone_bad p c.args.every found c.args.groups c.in-Some.bad c.new-progress.result c.take_chunks.new.progress
    (subst (λ (told : Option BadRow). GoesOn p c.args.every found c.new-progress.result told c.take_chunks.new.progress) c.in-Some.is c.in_ok-bad.ensures)

pub returns-in-None-clause-scanned : goal.returns-in-None-clause-scanned
returns-in-None-clause-scanned c =
    let p = checked_plan c.args.checked.now in
    let found = all_records p c.args.chunks.now in
    let made = c.into_parts-rows in
    alone_done p c.args.every found c.args.groups made.result.1 made.result.0 c.new-progress.result c.take_chunks.new.progress
    (subst (λ (told : Option BadRow). GoesOn p c.args.every found c.new-progress.result told c.take_chunks.new.progress) c.in-None.is c.in_ok-bad.ensures)
    c.new-progress.ensures.groups c.new-progress.ensures.rows made.ensures.rows made.ensures.groups

pub returns-in-None-clause-valid : goal.returns-in-None-clause-valid
returns-in-None-clause-valid c =
    let p = checked_plan c.args.checked.now in
    let found = all_records p c.args.chunks.now in
    let made = c.into_parts-rows in
    let well = subst IsWellFormed c.plan-plan.ensures.same c.plan-plan.ensures.well_formed in
    alone_valid p c.args.every c.args.chunks.now made.result.1 c.new-progress.result c.take_chunks.new.progress well c.requires.fit
    (subst (AreValid p) (sym c.new-progress.ensures.groups) c.requires.valid)
    (subst (λ (told : Option BadRow). GoesOn p c.args.every found c.new-progress.result told c.take_chunks.new.progress) c.in-None.is c.in_ok-bad.ensures)
    made.ensures.groups
