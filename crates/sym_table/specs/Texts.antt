-- What the text of a field says: a number, or a label of an enum.
use Rattle.std.specs.Prelude.{◌≡◌, ◌≢◌, ℕ, ℤ, pos, neg_ℤ, ◌<◌, nat_le, nat_eq, Bool, false, ◌&&◌, ◌||◌, ◌==◌, IsTrue, List, [], ◌∷◌, reverse, Option, Some, None, slice_get, option_map, if◌then◌else◌}
use Rattle.std.specs.Char.{is_ascii_digit}
use Rattle.std.specs.List.{list_all, position}
use Rattle.std.specs.Cmp.Lexicographic.{pointwise}
use Rattle.std.specs.Str.Parse.{digits_value}
use Rattle.sym_base.specs.Limits.{num_max, IsNumber}

-- A space or a tab.
abbrev pub is_blank : ℕ → Bool
is_blank b = (b == 32) || (b == 9)

abbrev pub drop_blanks : List ℕ → List ℕ
drop_blanks [] = []
drop_blanks (b ∷ rest) = if is_blank b then drop_blanks rest else b ∷ rest

abbrev pub cut_blanks : List ℕ → List ℕ
cut_blanks text = reverse (drop_blanks (reverse text))

-- The text without the blanks at its ends.
abbrev pub without_blanks : List ℕ → List ℕ
without_blanks text = cut_blanks (drop_blanks text)

-- One decimal digit or more, and nothing else.
abbrev pub are_digits : List ℕ → Bool
are_digits [] = false
are_digits (d ∷ ds) = list_all is_ascii_digit (d ∷ ds)

-- A number in decimal digits, which may begin with zeros, after a `+`, a `-` or no sign.
pub data IsNumeral : List ℕ → ℤ → Type 0 where
  plain : (ds : List ℕ) → IsTrue (are_digits ds) → IsNumeral ds (pos (digits_value 10 ds))
  plus : (ds : List ℕ) → IsTrue (are_digits ds) → IsNumeral (43 ∷ ds) (pos (digits_value 10 ds))
  minus : (ds : List ℕ)
      → IsTrue (are_digits ds)
      → IsNumeral (45 ∷ ds) (neg_ℤ (pos (digits_value 10 ds)))

-- The numeral of a number that scripts may have.
pub record SaysNumber (text : List ℕ) (x : ℤ) : Type 0 where
  pub numeral : IsNumeral text x
  pub in_range : IsNumber x

-- The number of at most 10^12 that the digits write.
abbrev pub digits_number : List ℕ → Option ℕ
digits_number ds =
    if are_digits ds && nat_le (digits_value 10 ds) num_max then Some (digits_value 10 ds) else None

abbrev pub negative : ℕ → ℤ
negative n = neg_ℤ (pos n)

-- The number that a text says.
abbrev pub number_in : List ℕ → Option ℤ
number_in [] = None
number_in (b ∷ rest) =
    if b == 45 then option_map negative (digits_number rest)
    else if b == 43 then option_map pos (digits_number rest)
    else option_map pos (digits_number (b ∷ rest))

-- The text is the label's name, and no label before it has that name.
pub record SaysLabel (labels : List (List ℕ)) (text : List ℕ) (label : ℕ) : Type 0 where
  pub named : slice_get labels label ≡ Some text
  pub first : (k : ℕ) → k < label → slice_get labels k ≢ Some text

-- The number of the label whose name the text is.
abbrev pub label_in : List (List ℕ) → List ℕ → Option ℕ
label_in labels text = position (λ name. pointwise nat_eq name text) labels
