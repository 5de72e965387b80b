use Rattle.std.proofs.Common.{ap, ◌∙◌}
use Rattle.std.proofs.lemmas.Result.{IfOk-weaker}
use Rattle.clap.specs.Words.{with_rule}
use Rattle.sym_command.specs.declared.arguments.TheConstants as own
use Rattle.sym_command.specs.CommandLines.{flag_rule, word_rule, check_app}
use Rattle.sym_command.proofs.command_lines.check_command.Goals as goal

pub returns : goal.returns
unfolding check_app
returns c =
    let printed = c.in_ok-printed.ensures ∙ ap (λ app. with_rule app (flag_rule own.PRINT_NAME.now)) c.bare_command.ensures in
    IfOk-weaker c.with_word.result _ _ (λ made is. is ∙ ap (λ app. with_rule app (word_rule own.SCRIPT_NAME.now)) printed) c.with_word.ensures
