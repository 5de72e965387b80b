-- What is read of the text of a number.
use Rattle.std.proofs.Common.{◌≡◌, ℕ, ◌<◌, ◌≤◌, ◌^◌, Bool, true, false, ◌&&◌, List, length, Some, None, Result, Ok, Err, refl, ap, arith, rules, nat_le}
use Rattle.std.proofs.lemmas.Bool.Decides.{nat_tests}
use Rattle.std.proofs.lemmas.Str.Parse.{IsNumeralModel, numerals_by_value, parse_gives, digits_value_short}
use Rattle.std.specs.Char.{is_ascii_digit}
use Rattle.std.specs.List.{list_all}
use Rattle.std.specs.Str.Parse.{ParsesUnsigned, digits_value}
use Rattle.sym_command.specs.declared.numbers.TheConstants as own
use Rattle.sym_command.specs.Numbers.{is_numeral, number_of}

abbrev AreDigits : List ℕ → Type 0
AreDigits ds = list_all is_ascii_digit ds ≡ true

digits : IsNumeralModel AreDigits (digits_value 10)
digits = numerals_by_value AreDigits (search rules)

both : (a b : Bool) → (a && b) ≡ true → (a ≡ true) × (b ≡ true)
both true b e = (refl, e)
both false b e = cc

pub numeral-read : {E : Type 0} (text : List ℕ) (r : Result ℕ E) → ParsesUnsigned 64 10 text r → is_numeral text ≡ true → r ≡ Ok (digits_value 10 text)
numeral-read text r read is =
    let outer = both (nat_le 1 (length text)) (nat_le (length text) own.DIGITS_MAX && list_all is_ascii_digit text) is in
    let inner = both (nat_le (length text) own.DIGITS_MAX) (list_all is_ascii_digit text) outer.1 in
    let some : 1 ≤ length text = grind (arith, nat_tests) in
    let few : length text ≤ 10 = grind (arith, nat_tests) in
    let small : digits_value 10 text < 10 ^ 10 = digits_value_short digits text 10 inner.1 few in
    parse_gives digits 64 text r read inner.1 (omega arith) (omega arith)

pub number-read : {E : Type 0} (text : List ℕ) (r : Result ℕ E) (n : ℕ) → ParsesUnsigned 64 10 text r → r ≡ Ok n → is_numeral text ≡ true → Some n ≡ number_of text
unfolding number_of
number-read {E} text r n read is numeral =
    let same = numeral-read text r read numeral in
    let value : n ≡ digits_value 10 text = cc in
    rw numeral (ap Some value)

pub number-unread : {E : Type 0} (text : List ℕ) (r : Result ℕ E) (e : E) → ParsesUnsigned 64 10 text r → r ≡ Err e → is_numeral text ≡ true → None ≡ number_of text
number-unread text r e read is numeral =
    let same = numeral-read text r read numeral in
    cc

pub no-number : (text : List ℕ) → is_numeral text ≡ false → None ≡ number_of text
unfolding number_of
no-number text not_one = rw not_one refl
