-- The text so far, and then what the other bytes write, is what they all write.
use Rattle.std.proofs.Common.{◌≡◌, false, drop}
use Rattle.sym_lex.specs.Lexing.{body_of}
use Rattle.sym_lex.proofs.Bodies.{continued}
use Rattle.sym_lex.proofs.find.read_body.Given as goal

abbrev pub invariant-body : goal.invariant-body
invariant-body l = record {
  counted : l.size ≡ l.byte-index;
  read : continued l.text.items l.size (body_of l.after_backslash (drop l.byte-index l.bytes)) ≡ body_of false l.bytes;
}
