-- Numbers in decimal digits.
use Rattle.std.proofs.Common.{◌≡◌, ℕ, ℤ, pos, neg_ℤ, option_map, ◌+◌, ◌-◌, ◌*◌, ◌<◌, ◌≤◌, Bool, true, false, nat_le, length, List, [], ◌∷◌, Option, Some, None, drop, get_or, refl, sym, ap, ◌∙◌, arith}
use Rattle.std.proofs.lemmas.Bool.Decides.{nat_tests}
use Rattle.std.proofs.lemmas.List.{at_drop_more}
use Rattle.std.specs.Char.{is_ascii_digit, digit_value}
use Rattle.std.specs.List.{list_all}
use Rattle.std.specs.Str.Parse.{digits_value, digits_value_after}
use Rattle.sym_base.specs.Limits.{num_max}
use Rattle.sym_table.specs.Texts.{are_digits, digits_number, negative}

le-digits_value_after : (n : ℕ) (ds : List ℕ) → n ≤ digits_value_after 10 n ds
le-digits_value_after n [] = omega arith
le-digits_value_after n (d ∷ ds) =
    let h : n * 10 + digit_value d ≤ digits_value_after 10 (n * 10 + digit_value d) ds = le-digits_value_after (n * 10 + digit_value d) ds in
    omega arith

pub digit_bounds : (c : ℕ) → is_ascii_digit c ≡ true → (48 ≤ c) × (c ≤ 57)
digit_bounds c h = grind (arith, nat_tests)

pub digit_value-ascii : (c : ℕ) → is_ascii_digit c ≡ true → digit_value c ≡ c - 48
digit_value-ascii c h = let b : (48 ≤ c) × (c ≤ 57) = digit_bounds c h in grind (arith, nat_tests)

le-false : (m n : ℕ) → n < m → nat_le m n ≡ false
le-false m n h = grind (arith, nat_tests)

le-true : (m n : ℕ) → m ≤ n → nat_le m n ≡ true
le-true m n h = grind (arith, nat_tests)

some_same : (m n : ℤ) → ◌≡◌ {A = Option ℤ} (Some m) (Some n) → m ≡ n
some_same m n e = cc

-- One digit more.
pub value_more : (n i d : ℕ) (ds : List ℕ) → i < length ds → d ≡ get_or ds i 0 → is_ascii_digit d ≡ true
    → digits_value_after 10 n (drop i ds) ≡ digits_value_after 10 (n * 10 + (d - 48)) (drop (i + 1) ds)
value_more n i d ds h is digit =
    at_drop_more (digits_value_after 10 n) ds i 0 h
    ∙ ap (λ v. digits_value_after 10 (n * 10 + v) (drop (i + 1) ds))
    (ap digit_value (sym is) ∙ digit_value-ascii d digit)

pub all_more : (i d : ℕ) (ds : List ℕ) → i < length ds → d ≡ get_or ds i 0 → is_ascii_digit d ≡ true
    → list_all is_ascii_digit (drop i ds) ≡ list_all is_ascii_digit (drop (i + 1) ds)
all_more i d ds h is digit = at_drop_more (list_all is_ascii_digit) ds i 0 h ∙ rw (← is, digit) refl

none_where_false : (ds : List ℕ) → are_digits ds ≡ false → digits_number ds ≡ None
none_where_false ds e = rw e refl

are_all : (ds : List ℕ) → list_all is_ascii_digit ds ≡ false → are_digits ds ≡ false
are_all [] e = refl
are_all (d ∷ ds) e = e

-- A byte that isn't a digit.
pub no_digit : (i d : ℕ) (ds : List ℕ) → i < length ds → d ≡ get_or ds i 0 → is_ascii_digit d ≡ false
    → list_all is_ascii_digit (drop i ds) ≡ list_all is_ascii_digit ds → digits_number ds ≡ None
no_digit i d ds h is digit all =
    let here : list_all is_ascii_digit (drop i ds) ≡ false = at_drop_more (list_all is_ascii_digit) ds i 0 h ∙ rw (← is, digit) refl in
    none_where_false ds (are_all ds (sym all ∙ here))

too_large : (ds : List ℕ) (b : Bool) → are_digits ds ≡ b → num_max < digits_value 10 ds → digits_number ds ≡ None
too_large ds true e h = rw (e, le-false (digits_value 10 ds) num_max h) refl
too_large ds false e h = rw e refl

-- A number that is too large stays so, whatever follows.
pub large : (n i d : ℕ) (ds : List ℕ) → i < length ds → d ≡ get_or ds i 0 → is_ascii_digit d ≡ true
    → digits_value_after 10 n (drop i ds) ≡ digits_value 10 ds → num_max < n * 10 + (d - 48) → digits_number ds ≡ None
large n i d ds h is digit read big =
    let more : digits_value_after 10 n (drop i ds) ≡ digits_value_after 10 (n * 10 + (d - 48)) (drop (i + 1) ds) = value_more n i d ds h is digit in
    let least : n * 10 + (d - 48) ≤ digits_value_after 10 (n * 10 + (d - 48)) (drop (i + 1) ds) = le-digits_value_after (n * 10 + (d - 48)) (drop (i + 1) ds) in
    too_large ds (are_digits ds) refl (omega arith)

some_digits : (d : ℕ) (ds : List ℕ) → true ≡ list_all is_ascii_digit (d ∷ ds) → are_digits (d ∷ ds) ≡ true
some_digits d ds e = sym e

are_some : (ds : List ℕ) → 1 ≤ length ds → true ≡ list_all is_ascii_digit ds → are_digits ds ≡ true
are_some [] h e = absurd (omega (arith, h))
are_some (d ∷ ds) h e = sym e

-- All digits are read.
pub all_read : (n : ℕ) (ds : List ℕ) → 1 ≤ length ds → true ≡ list_all is_ascii_digit ds → n ≡ digits_value 10 ds → n ≤ num_max
    → digits_number ds ≡ Some n
all_read n ds h all read small =
    rw (are_some ds h all, le-true (digits_value 10 ds) num_max (rw (← read) small), read) refl

-- The digits after a minus.
pub negative_of : (found : Option ℕ) (n : ℤ) → Some n ≡ option_map pos found → Some (neg_ℤ n) ≡ option_map negative found
negative_of None n e = cc e
negative_of (Some m) n e = rw (some_same n (pos m) e) refl
