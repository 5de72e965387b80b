-- The operator of a token that is a keyword or a symbol.
use Rattle.std.proofs.Common.{◌∙◌, sym}
use Rattle.sym_parse.specs.Parsing.Levels.{op_at}
use Rattle.sym_parse.specs.Steps.{next}
use Rattle.sym_parse.specs.Views.{input}
use Rattle.sym_parse.proofs.Marks.{op-word, op-sign}
use Rattle.sym_parse.proofs.state.Cursor.operator.Goals as goal

pub returns-in-Some-clause-is : goal.returns-in-Some-clause-is
returns-in-Some-clause-is c =
    c.word_operator.ensures ∙ sym (op-word (op_at c.args.level) (next (input c.args.self.now)) c.in-Some.keyword (sym c.in-Some.ensures.is))

pub returns-in-Some-symbol-clause-is : goal.returns-in-Some-symbol-clause-is
returns-in-Some-symbol-clause-is c =
    c.sign_operator.ensures ∙ sym (op-sign (op_at c.args.level) (next (input c.args.self.now)) c.in-Some-symbol.symbol (sym c.in-Some-symbol.ensures.is))
