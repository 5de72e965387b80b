-- Numbers in decimal digits.
use Rattle.std.proofs.Common.{◌≡◌, ℕ, suc, ◌+◌, ◌-◌, ◌*◌, ◌<◌, ◌≤◌, length, true, List, [], ◌∷◌, None, drop, get_or, refl, drop-cons, arith}
use Rattle.std.proofs.lemmas.Bool.Decides.{nat_tests}
use Rattle.std.specs.Char.{is_ascii_digit, digit_value}
use Rattle.std.specs.List.{list_all}
use Rattle.std.specs.Str.Parse.{digits_value, digits_value_after}
use Rattle.sym_base.specs.Limits.{num_max}
use Rattle.sym_lex.specs.Lexing.{number_of}
use Rattle.sym_lex.proofs.Bytes.{le-false, passes}

pub le-digits_value_after : (n : ℕ) (ds : List ℕ) → n ≤ digits_value_after 10 n ds
le-digits_value_after n [] = omega arith
le-digits_value_after n (d ∷ ds) =
    let h : n * 10 + digit_value d ≤ digits_value_after 10 (n * 10 + digit_value d) ds = le-digits_value_after (n * 10 + digit_value d) ds in
    omega arith

pub digit_bounds : (c : ℕ) → is_ascii_digit c ≡ true → (48 ≤ c) × (c ≤ 57)
digit_bounds c h = grind (arith, nat_tests)

pub digit_value-ascii : (c : ℕ) → is_ascii_digit c ≡ true → digit_value c ≡ c - 48
digit_value-ascii c h = let b : (48 ≤ c) × (c ≤ 57) = digit_bounds c h in grind (arith, nat_tests)

pub number-large : (n i d : ℕ) (digits : List ℕ) → digits_value_after 10 n (drop i digits) ≡ digits_value 10 digits → i < length digits → d ≡ get_or digits i 0 →
    list_all is_ascii_digit digits ≡ true → num_max < n * 10 + (d - 48) → number_of digits ≡ None
number-large n i d digits e h is all large =
    let digit : is_ascii_digit d ≡ true = rw is (passes is_ascii_digit digits i 0 h all) in
    let s : digits_value_after 10 n (drop i digits) ≡ digits_value_after 10 (n * 10 + digit_value d) (drop (suc i) digits) = rw (drop-cons digits i 0, ← is) refl in
    let v : digit_value d ≡ d - 48 = digit_value-ascii d digit in
    let k : n * 10 + digit_value d ≤ digits_value_after 10 (n * 10 + digit_value d) (drop (suc i) digits) = le-digits_value_after (n * 10 + digit_value d) (drop (suc i) digits) in
    let big : num_max < digits_value 10 digits = omega arith in
    rw (le-false (digits_value 10 digits) num_max big) refl
