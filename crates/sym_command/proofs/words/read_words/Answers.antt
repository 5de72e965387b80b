use Rattle.std.proofs.Common.{◌∙◌, sym, ap, map}
use Rattle.std.proofs.lemmas.Result.{IfOk-weaker}
use Rattle.std.specs.String.{string_bytes}
use Rattle.sym_command.specs.Commands.{command_by, command_in}
use Rattle.sym_command.proofs.Matching.{command-first, command-none}
use Rattle.sym_command.proofs.words.read_words.Goals as goal

pub returns-in-empty-clause-read : goal.returns-in-empty-clause-read
returns-in-empty-clause-read c =
    let arguments = c.as_slice-arguments.result.now in
    sym (command-none string_bytes arguments c.in-empty.len_below)
    ∙ ap (λ words. command_in (map string_bytes words)) c.as_slice-arguments.ensures.value

pub returns-in-len1-up-clause-read : goal.returns-in-len1-up-clause-read
returns-in-len1-up-clause-read c =
    let arguments = c.as_slice-arguments.result.now in
    let first = command-first string_bytes arguments c.name-item.result c.in-len1-up.len_at_least c.name-item.is in
    let named = ap (λ name. command_by name (map string_bytes arguments)) c.as_str.ensures.value in
    let whole = ap (λ words. command_in (map string_bytes words)) c.as_slice-arguments.ensures.value in
    IfOk-weaker c.read_command.result _ _ (λ found is. is ∙ named ∙ sym first ∙ whole) c.read_command.ensures.read
