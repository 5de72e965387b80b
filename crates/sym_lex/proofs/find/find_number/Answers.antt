-- The digits at the front are digits.
use Rattle.std.proofs.Common.{◌≡◌, true, take, sym, subst, ℕ}
use Rattle.std.specs.Char.{is_ascii_digit}
use Rattle.std.specs.List.{list_all}
use Rattle.sym_lex.proofs.Bytes.{prefix-passes}
use Rattle.sym_lex.proofs.find.find_number.Goals as goal

pub number_of-requires : goal.number_of-requires
number_of-requires c =
    subst (λ (n : ℕ). list_all is_ascii_digit (take n c.args.text.now) ≡ true) (sym c.digits_size-size.ensures.size) (prefix-passes is_ascii_digit c.args.text.now)
