-- A number that is too large stays so, whatever digits follow.
use Rattle.std.proofs.Common.{sym, get_or, refl, arith}
use Rattle.sym_lex.proofs.Numbers.{number-large}
use Rattle.sym_lex.proofs.find.number_of.Goals as goal

pub returns-then-number-gt-NUMBER_MAX : goal.returns-then-number-gt-NUMBER_MAX
returns-then-number-gt-NUMBER_MAX c =
    sym (number-large c.digits.number c.digits.digit-index (get_or c.args.digits.now c.digits.digit-index 0) c.args.digits.now c.digits.invariant.read (omega arith) refl c.requires (omega arith))
