-- Values whose words lie in a list of their own.
use Rattle.std.specs.Prelude.{◌<◌, ⊤, ℕ, List, [], ◌∷◌, map, length, slice_index_or}
use Rattle.std.specs.List.{All}
use Rattle.sym_base.specs.declared.values.value.Value.{Value}
use Rattle.sym_base.specs.declared.values.value.Value.TheVariants as value
use Rattle.sym_shuffle.specs.declared.packed.Packed.{Packed}
use Rattle.sym_shuffle.specs.declared.packed.Packed.TheVariants as packed

-- A value with its word.
abbrev pub unpacked_one : List (List ℕ) → Packed → Value
unpacked_one words (packed.Num number) = value.Num number
unpacked_one words (packed.Word index) = value.Word (slice_index_or words index [])
unpacked_one words (packed.Label label) = value.Label label

-- Values with their words, in order.
abbrev pub unpacked : List (List ℕ) → List Packed → List Value
unpacked words items = map (unpacked_one words) items

-- The word of a value, if it has one.
abbrev pub words_of : Value → List (List ℕ)
words_of (value.Num number) = []
words_of (value.Word word) = word ∷ []
words_of (value.Label label) = []

-- A word has one of the words' indices.
abbrev pub IsThere : List (List ℕ) → Packed → Type 0
IsThere words (packed.Num number) = ⊤
IsThere words (packed.Word index) = index < length words
IsThere words (packed.Label label) = ⊤

-- Each word has.
abbrev pub AreThere : List (List ℕ) → List Packed → Type 0
AreThere words items = All (IsThere words) items
