use Rattle.std.proofs.Common.{◌∙◌, Option, ap, subst}
use Rattle.sym_check.specs.Checking.CheckedScripts.{checked_plan}
use Rattle.sym_table.specs.ChunkRecords.{all_records}
use Rattle.sym_table.specs.declared.bad.Bad.{Bad as BadRow}
use Rattle.sym_scan.specs.Replays.{GoesOn}
use Rattle.sym_scan.specs.declared.replays.Replayed.TheVariants.{Rows}
use Rattle.sym_scan.proofs.ReplaySteps.{replay_bad, replay_told}
use Rattle.sym_scan.proofs.replays.replay_all.Goals as goal

pub returns-in-Some : goal.returns-in-Some
returns-in-Some c =
    let p = checked_plan c.args.checked.now in
    let found = all_records p c.args.chunks.now in
    replay_bad p c.args.every found c.args.starts c.in-Some.bad c.new-progress.result c.take_chunks.new.progress
    (subst (λ (told : Option BadRow). GoesOn p c.args.every found c.new-progress.result told c.take_chunks.new.progress) c.in-Some.is c.in_ok-bad.ensures)

pub returns-in-None : goal.returns-in-None
returns-in-None c =
    let p = checked_plan c.args.checked.now in
    let found = all_records p c.args.chunks.now in
    ap Rows c.into_parts.ensures.rows
    ∙ replay_told p c.args.every found c.args.starts c.new-progress.result c.take_chunks.new.progress
    (subst (λ (told : Option BadRow). GoesOn p c.args.every found c.new-progress.result told c.take_chunks.new.progress) c.in-None.is c.in_ok-bad.ensures)
    (c.new-progress.ensures.groups ∙ c.into_groups.ensures) c.new-progress.ensures.rows
