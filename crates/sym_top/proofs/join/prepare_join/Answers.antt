use Rattle.std.proofs.Common.{Some, refl}
use Rattle.sym_command.specs.declared.commands.Command.TheVariants as command
use Rattle.sym_command.specs.Words.{join_seen}
use Rattle.sym_top.specs.Programs.{checked_program}
use Rattle.sym_top.proofs.Preparing.{join-files-stop, join-ready, joins-by, memory-stops, reading-load-stops}
use Rattle.sym_top.proofs.join.prepare_join.Goals as goal

pub returns-in-Err-clause-comes_to : goal.returns-in-Err-clause-comes_to
returns-in-Err-clause-comes_to g c asked is =
    reading-load-stops _ (command.Join c.args.join.now) is c.args.join.now.script.now (join_seen c.args.join.now).files refl (λ held. refl) c.in-Err.stop c.in-Err.ensures.none c.in-Err.ensures.refused

pub returns-in-Err-join_files-clause-comes_to : goal.returns-in-Err-join_files-clause-comes_to
returns-in-Err-join_files-clause-comes_to g c asked is =
    join-files-stop _ c.args.join.now is c.in-Ok.checked (g.F.Store.faults c.load_script.new.files) c.in-Ok.ensures.later c.in-Ok.ensures.loaded
    c.reduce_refusal.result c.in-Err-join_files.error c.reduce_refusal.ensures
    (rw (c.in-Ok.ensures.same, c.as_slice-names.ensures.value) at c.in-Err-join_files.ensures.stopped)

pub returns-in-Ok-write_saved-clause-comes_to : goal.returns-in-Ok-write_saved-clause-comes_to
returns-in-Ok-write_saved-clause-comes_to g c asked is =
    let program = checked_program c.in-Ok.checked in
    let text = c.in-Ok-write_saved.text.items in
    join-ready _ c.args.join.now is program text c.in-Ok.ensures.loaded
    (joins-by program c.args.join.now.max_bytes c.args.join.now.limit _ _ c.in-Ok-join_files.joined text
    (rw (c.in-Ok.ensures.same, c.as_slice-names.ensures.value) at c.in-Ok-join_files.ensures.joined)
    c.in-Ok-write_saved.ensures.text c.in-Ok-write_saved.ensures.stored)

pub returns-in-Err-write_saved-clause-comes_to : goal.returns-in-Err-write_saved-clause-comes_to
returns-in-Err-write_saved-clause-comes_to g c asked is = memory-stops _ (Some (command.Join c.args.join.now)) (Some c.in-Ok.checked)
