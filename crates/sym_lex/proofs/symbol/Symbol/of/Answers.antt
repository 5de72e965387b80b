-- Only symbols of the text's first byte can begin the text.
use Rattle.std.proofs.Common.{nat_eq, ◌∙◌, ap, arith}
use Rattle.std.specs.List.{find, starts_with}
use Rattle.sym_lex.specs.Symbols.{symbol_text}
use Rattle.sym_lex.proofs.Signs.{symbol_by_first}
use Rattle.sym_lex.proofs.symbol.Symbol.of.Goals as goal

pub returns-in-len1-up : goal.returns-in-len1-up
returns-in-len1-up c =
    c.first_beginning.ensures ∙ ap (find (λ s. starts_with nat_eq c.args.text.now (symbol_text s))) c.beginning.ensures ∙ symbol_by_first c.args.text.now (omega arith)
