use Rattle.std.proofs.Common.{ap, ◌∙◌}
use Rattle.std.proofs.lemmas.Result.{IfOk-weaker}
use Rattle.clap.specs.Words.{with_rule}
use Rattle.sym_command.specs.declared.arguments.TheConstants as own
use Rattle.sym_command.specs.CommandLines.{option_rule, flag_rule, word_rule, words_rule, with_pass_options, run_app}
use Rattle.sym_command.proofs.command_lines.run_command.Goals as goal

pub returns : goal.returns
unfolding run_app
returns c =
    let formed = c.in_ok-formed.ensures ∙ ap (λ app. with_rule app (option_rule own.FORM_NAME.now)) c.bare_command.ensures in
    let optional = c.in_ok-optional.ensures ∙ ap with_pass_options formed in
    let sized = c.in_ok-sized.ensures ∙ ap (λ app. with_rule app (option_rule own.MAX_BYTES_NAME.now)) optional in
    let watched = c.in_ok-watched.ensures ∙ ap (λ app. with_rule app (flag_rule own.WATCH_NAME.now)) sized in
    let scripted = c.in_ok-scripted.ensures ∙ ap (λ app. with_rule app (word_rule own.SCRIPT_NAME.now)) watched in
    IfOk-weaker c.with_words.result _ _ (λ made is. is ∙ ap (λ app. with_rule app (words_rule own.FILES_NAME.now)) scripted) c.with_words.ensures
