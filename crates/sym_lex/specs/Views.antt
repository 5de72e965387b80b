-- What the lexer's own structures say, memory aside.
use Rattle.sym_lex.specs.declared.found.Body.{Body}
use Rattle.sym_lex.specs.Lexing as lexing

abbrev pub body_view : Body → lexing.Decoded
body_view body = record { text = body.text.items; size = body.size }
