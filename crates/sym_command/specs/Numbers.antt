-- Numbers among the arguments.
-- What counts as one, and the range of each option, are this project's profile.
use Rattle.std.specs.Prelude.{ℕ, Bool, nat_le, ◌&&◌, if◌then◌else◌, List, length, Option, None, Some, option_and_then}
use Rattle.std.specs.Char.{is_ascii_digit}
use Rattle.std.specs.List.{list_all}
use Rattle.std.specs.Str.Parse.{digits_value}
use Rattle.sym_command.specs.declared.numbers.TheConstants as own
use Rattle.sym_command.specs.declared.numbers.NumberRange.{NumberRange}
use Rattle.sym_command.specs.declared.numbers.NumberOption.{NumberOption}

-- One to ten decimal digits, and nothing else.
abbrev pub is_numeral : List ℕ → Bool
is_numeral text =
    nat_le 1 (length text) && (nat_le (length text) own.DIGITS_MAX && list_all is_ascii_digit text)

-- The number that a text says, where it says one.
unfoldable pub number_of : List ℕ → Option ℕ
number_of text = if is_numeral text then Some (digits_value 10 text) else None

-- The number, where it lies in the range.
abbrev pub ranged : NumberRange → ℕ → Option ℕ
ranged range number =
    if nat_le range.least number && nat_le number range.most then Some number else None

-- The number that a text says, where it lies in the range.
abbrev pub number_in_range : NumberRange → List ℕ → Option ℕ
number_in_range range text = option_and_then (ranged range) (number_of text)

-- The number of an option: by its value, or the default if it isn't given.
abbrev pub option_number : NumberOption → Option (List ℕ) → Option ℕ
option_number option None = Some option.default
option_number option (Some text) = number_in_range option.range text
