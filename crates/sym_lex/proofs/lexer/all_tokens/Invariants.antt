-- The tokens so far, and then those of the rest, are those of the text.
use Rattle.std.proofs.Common.{◌≡◌, ◌≤◌, ◌-◌, length}
use Rattle.sym_lex.specs.Lexing.{lexed}
use Rattle.sym_lex.proofs.Steps.{split}
use Rattle.sym_lex.proofs.lexer.all_tokens.Given as goal

abbrev pub invariant-text : goal.invariant-text
invariant-text l = record {
  within : l.at ≤ length l.bytes;
  read : split l.tokens.items l.at l.bytes ≡ lexed l.bytes;
}

abbrev pub decreases-text : goal.decreases-text
decreases-text l = length l.bytes - l.at
