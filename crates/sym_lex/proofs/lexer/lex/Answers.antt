-- What is found is what the rules say.
use Rattle.std.proofs.Common.{Vec, Global}
use Rattle.sym_lex.specs.declared.token.Token.{Token}
use Rattle.sym_lex.proofs.Callers.{fault-read, only-read, tokens-in_order, tokens-read, tokens-sound}
use Rattle.sym_lex.proofs.lexer.lex.Goals as goal

pub returns-clause-tokens : goal.returns-clause-tokens
returns-clause-tokens c = tokens-read (λ (v : Vec Token Global). v.items) c.args.bytes.now c.all_tokens.result c.all_tokens.ensures

pub returns-clause-fault : goal.returns-clause-fault
returns-clause-fault c = fault-read (λ (v : Vec Token Global). v.items) c.args.bytes.now c.all_tokens.result c.all_tokens.ensures

pub returns-clause-only : goal.returns-clause-only
returns-clause-only c = only-read (λ (v : Vec Token Global). v.items) c.args.bytes.now c.all_tokens.result c.all_tokens.ensures

pub returns-clause-sound : goal.returns-clause-sound
returns-clause-sound c = tokens-sound (λ (v : Vec Token Global). v.items) c.args.bytes.now c.all_tokens.result c.all_tokens.ensures

pub returns-clause-in_order : goal.returns-clause-in_order
returns-clause-in_order c = tokens-in_order (λ (v : Vec Token Global). v.items) c.args.bytes.now c.all_tokens.result c.all_tokens.ensures
