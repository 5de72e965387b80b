-- What a cursor reads from.
use Rattle.sym_parse.specs.declared.state.Cursor.{Cursor}
use Rattle.sym_parse.specs.Lexemes.{lexemes_of}
use Rattle.sym_parse.specs.Steps.{Input}

abbrev pub input : Cursor → Input
input c = record {
  rest = lexemes_of c.source.now c.rest.now;
  statements = c.statements;
  operands = c.operands;
}
