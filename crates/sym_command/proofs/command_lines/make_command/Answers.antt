use Rattle.std.proofs.Common.{ap, ◌∙◌}
use Rattle.std.proofs.lemmas.Result.{IfOk-weaker}
use Rattle.clap.specs.Words.{with_rule}
use Rattle.sym_command.specs.declared.arguments.TheConstants as own
use Rattle.sym_command.specs.CommandLines.{word_rule, with_pass_options, make_app}
use Rattle.sym_command.proofs.command_lines.make_command.Goals as goal

pub returns : goal.returns
unfolding make_app
returns c =
    let optional = c.in_ok-optional.ensures ∙ ap with_pass_options c.bare_command.ensures in
    let counted = c.in_ok-counted.ensures ∙ ap (λ app. with_rule app (word_rule own.RECORDS_NAME.now)) optional in
    IfOk-weaker c.with_word-2.result _ _ (λ made is. is ∙ ap (λ app. with_rule app (word_rule own.SEED_NAME.now)) counted) c.with_word-2.ensures
