use Rattle.std.proofs.Common.{sym, ◌∙◌}
use Rattle.sym_command.proofs.Numerals.{number-read, number-unread, no-number}
use Rattle.sym_command.proofs.numbers.read_number.Goals as goal

pub returns-then-not-is_numeral : goal.returns-then-not-is_numeral
returns-then-not-is_numeral c =
    no-number c.args.text.now (sym c.is_numeral.ensures ∙ c.if-not-is_numeral.true)

pub returns-in-Ok : goal.returns-in-Ok
returns-in-Ok c =
    number-read c.args.text.now _ c.in-Ok.number c.parse.ensures.value.0 c.in-Ok.is
    (sym c.is_numeral.ensures ∙ c.if-not-is_numeral.false)

pub returns-in-Err : goal.returns-in-Err
returns-in-Err c =
    number-unread c.args.text.now _ _ c.parse.ensures.value.0 c.in-Err.is
    (sym c.is_numeral.ensures ∙ c.if-not-is_numeral.false)
