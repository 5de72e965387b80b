use Rattle.std.proofs.Common.{ap, ◌∙◌}
use Rattle.std.proofs.lemmas.Result.{IfOk-weaker}
use Rattle.clap.specs.Words.{with_rule}
use Rattle.sym_command.specs.declared.arguments.TheConstants as own
use Rattle.sym_command.specs.CommandLines.{option_rule}
use Rattle.sym_command.proofs.command_lines.with_pass_options.Goals as goal

pub returns : goal.returns
returns c =
    IfOk-weaker c.with_option-3.result _ _
    (λ made is. is ∙ ap (λ app. with_rule app (option_rule own.WORKERS_NAME.now))
    (c.in_ok-limited.ensures ∙ ap (λ app. with_rule app (option_rule own.LIMIT_NAME.now)) c.in_ok-chunked.ensures))
    c.with_option-3.ensures
