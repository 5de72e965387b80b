use Rattle.std.proofs.Common.{[], Some, refl}
use Rattle.sym_command.specs.declared.commands.Command.TheVariants as command
use Rattle.sym_top.specs.Programs.{checked_program}
use Rattle.sym_top.proofs.Preparing.{check-ready, memory-stops, reading-load-stops}
use Rattle.sym_top.proofs.check.prepare_check.Goals as goal

pub returns-in-Err-clause-comes_to : goal.returns-in-Err-clause-comes_to
returns-in-Err-clause-comes_to g c asked is =
    reading-load-stops _ (command.Check c.args.check.now) is c.args.check.now.script.now [] refl (λ held. refl) c.in-Err.stop c.in-Err.ensures.none c.in-Err.ensures.refused

pub returns-in-Ok-say-clause-comes_to : goal.returns-in-Ok-say-clause-comes_to
returns-in-Ok-say-clause-comes_to g c asked is =
    check-ready _ c.args.check.now is (checked_program c.in-Ok.checked) c.in-Ok-say.text.items c.in-Ok.ensures.loaded c.in-Ok-say.ensures

pub returns-in-Err-say-clause-comes_to : goal.returns-in-Err-say-clause-comes_to
returns-in-Err-say-clause-comes_to g c asked is = memory-stops _ (Some (command.Check c.args.check.now)) (Some c.in-Ok.checked)
