use Rattle.std.proofs.Common.{Some, refl, sym}
use Rattle.sym_command.specs.declared.commands.Command.TheVariants as command
use Rattle.sym_command.specs.Words.{map_seen}
use Rattle.sym_top.specs.Programs.{checked_program}
use Rattle.sym_top.proofs.Preparing.{map-ready, maps-by, memory-stops, reading-files-stop, reading-load-stops}
use Rattle.sym_top.proofs.map.prepare_map.Goals as goal

pub returns-in-Err-clause-comes_to : goal.returns-in-Err-clause-comes_to
returns-in-Err-clause-comes_to g c asked is shown =
    reading-load-stops _ (command.Map c.args.part.now) is c.args.part.now.script.now (map_seen c.args.part.now).files refl (λ held. refl) c.in-Err.stop c.in-Err.ensures.none c.in-Err.ensures.refused

pub returns-in-Err-summarise-clause-comes_to : goal.returns-in-Err-summarise-clause-comes_to
returns-in-Err-summarise-clause-comes_to g c asked is shown =
    reading-files-stop _ (command.Map c.args.part.now) is c.args.part.now.script.now (map_seen c.args.part.now).files refl (λ held. refl) tt (λ held. refl)
    c.in-Ok.checked (g.F.Store.faults c.load_script.new.files) c.in-Ok.ensures.later c.in-Ok.ensures.loaded
    c.pass_refusal.result c.in-Err-summarise.error c.pass_refusal.ensures
    (rw (c.in-Ok.ensures.same, c.as_slice-names.ensures.value, sym shown) at c.in-Err-summarise.ensures.stopped)

pub returns-in-Ok-write_saved-clause-comes_to : goal.returns-in-Ok-write_saved-clause-comes_to
returns-in-Ok-write_saved-clause-comes_to g c asked is shown =
    let program = checked_program c.in-Ok.checked in
    let text = c.in-Ok-write_saved.text.items in
    map-ready _ c.args.part.now is program text c.in-Ok.ensures.loaded
    (maps-by program _ _ _ c.args.part.now.first c.args.part.now.options.limit c.in-Ok-summarise.saved text
    (rw (c.in-Ok.ensures.same, c.as_slice-names.ensures.value, sym shown) at c.in-Ok-summarise.ensures.saved)
    c.in-Ok-summarise.ensures.lawful c.in-Ok-summarise.ensures.tight c.in-Ok-write_saved.ensures.text c.in-Ok-write_saved.ensures.stored)

pub returns-in-Err-write_saved-clause-comes_to : goal.returns-in-Err-write_saved-clause-comes_to
returns-in-Err-write_saved-clause-comes_to g c asked is shown = memory-stops _ (Some (command.Map c.args.part.now)) (Some c.in-Ok.checked)
