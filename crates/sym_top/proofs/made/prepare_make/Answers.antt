use Rattle.std.proofs.Common.{Some, subst, sym}
use Rattle.sym_command.specs.declared.commands.Command.TheVariants as command
use Rattle.sym_top.specs.Loading.{MayRefuse}
use Rattle.sym_top.specs.Programs.{IsProgram, checked_program}
use Rattle.sym_top.specs.Promises.{IsReported}
use Rattle.sym_top.proofs.Consequences.{faulty-reported}
use Rattle.sym_top.proofs.Preparing.{make-refused, make-files-stop, make-ready, memory-stops}
use Rattle.sym_top.proofs.made.prepare_make.Goals as goal

pub returns-in-Err-clause-comes_to : goal.returns-in-Err-clause-comes_to
returns-in-Err-clause-comes_to g c call is shown =
    make-refused call c.args.make.now is c.in-Err.stop c.in-Err.ensures.none
    (subst (λ text. MayRefuse text c.in-Err.stop.why) c.made_script.ensures.text c.in-Err.ensures.refused)

pub returns-in-Err-pass_made-clause-comes_to : goal.returns-in-Err-pass_made-clause-comes_to
returns-in-Err-pass_made-clause-comes_to g c call is shown =
    make-files-stop call c.args.make.now is _ shown c.in-Ok.checked c.in-Err-pass_made.why
    (subst (λ text. IsProgram text (checked_program c.in-Ok.checked)) c.made_script.ensures.text c.in-Ok.ensures.accepted)
    c.in-Err-pass_made.ensures.stopped

pub returns-in-Ok-summary-clause-comes_to : goal.returns-in-Ok-summary-clause-comes_to
returns-in-Ok-summary-clause-comes_to g c call is shown =
    make-ready call c.args.make.now is _ shown c.in-Ok.checked c.in-Ok-pass_made.groups c.in-Ok-summary.report.status c.in-Ok-summary.report.text.items
    (subst (λ text. IsProgram text (checked_program c.in-Ok.checked)) c.made_script.ensures.text c.in-Ok.ensures.accepted)
    c.in-Ok-pass_made.ensures.passed c.in-Ok-summary.ensures.text c.in-Ok-summary.ensures.status

pub returns-in-Ok-summary-clause-reported : goal.returns-in-Ok-summary-clause-reported
returns-in-Ok-summary-clause-reported g c = subst IsReported (sym c.in-Ok-summary.ensures.status) (faulty-reported _)

pub returns-in-Err-summary-clause-comes_to : goal.returns-in-Err-summary-clause-comes_to
returns-in-Err-summary-clause-comes_to g c call is shown = memory-stops call (Some (command.Make c.args.make.now)) (Some c.in-Ok.checked)
