use Rattle.std.proofs.Common.{◌≡◌, ◌∙◌, ap, rules}
use Rattle.std.proofs.lemmas.Result.{IfOk-weaker}
use Rattle.clap.specs.Words.{app_of, rule_of, with_rule}
use Rattle.sym_command.specs.CommandLines.{option_rule}
use Rattle.sym_command.proofs.command_lines.with_option.Goals as goal

-- It is answered so that a mutant there fails at once.
pub returns : goal.returns
returns c =
    let rule : rule_of c.action.result ≡ option_rule c.args.name.now = search rules in
    IfOk-weaker c.arg.result _ _
    (λ made adds. adds.shape (search rules) ∙ ap (with_rule (app_of c.args.command)) rule) c.arg.ensures
