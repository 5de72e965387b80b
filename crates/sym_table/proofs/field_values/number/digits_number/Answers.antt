use Rattle.std.proofs.Common.{◌≡◌, None, get_or, refl, arith, sym, true, ◌∙◌}
use Rattle.std.specs.Char.{is_ascii_digit}
use Rattle.sym_table.specs.Texts.{digits_number}
use Rattle.sym_table.proofs.Numbers.{large}
use Rattle.sym_table.proofs.field_values.number.digits_number.Goals as goal

pub returns-then-number-gt-NUMBER_MAX-clause-value : goal.returns-then-number-gt-NUMBER_MAX-clause-value
returns-then-number-gt-NUMBER_MAX-clause-value c =
    let ds = c.args.digits.now in
    let i = c.digits.digit-index in
    let digit : is_ascii_digit (get_or ds i 0) ≡ true = sym c.is_ascii_digit.ensures.value ∙ c.if-not-is_ascii_digit.false in
    let none : digits_number ds ≡ None = large c.digits.number i (get_or ds i 0) ds (omega arith) refl digit c.digits.invariant.read (omega arith) in
    rw none refl
