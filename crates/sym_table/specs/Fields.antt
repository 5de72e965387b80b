-- What a field of a record reads its text as: a value of the field's kind, or the rule that the
-- text breaks.
use Rattle.std.specs.Prelude.{◌≡◌, ◌≢◌, ◌⊎◌, ℕ, ℤ, List, [], ◌∷◌, Option, Some, None, Result, Ok, Err, option_map, IsUtf8, if◌then◌else◌}
use Rattle.std.specs.Option.{ok_or}
use Rattle.std.specs.Str.{is_utf8}
use Rattle.sym_base.specs.declared.values.value.Value.{Value}
use Rattle.sym_base.specs.declared.values.value.Value.TheVariants as value
use Rattle.sym_check.specs.declared.plan.script.EnumPlan.{EnumPlan}
use Rattle.sym_check.specs.declared.plan.script.KindPlan.{KindPlan}
use Rattle.sym_check.specs.declared.plan.script.KindPlan.TheVariants as kind
use Rattle.sym_check.specs.declared.plan.script.FieldPlan.{FieldPlan}
use Rattle.sym_check.specs.Meaning.Validity.{enum_labels}
use Rattle.sym_table.specs.declared.bad.BadCause.{BadCause}
use Rattle.sym_table.specs.declared.bad.BadCause.TheVariants as cause
use Rattle.sym_table.specs.Texts.{without_blanks, SaysNumber, number_in, SaysLabel, label_in}

-- A word is kept whole; a number or a label may stand between blanks.
abbrev pub text_of : KindPlan → List ℕ → List ℕ
text_of kind.Num bytes = without_blanks bytes
text_of kind.Word bytes = bytes
text_of (kind.Label enum) bytes = without_blanks bytes

-- The text is UTF-8, and not one that stands for the value after `else`.
pub record IsRead (field : FieldPlan) (bytes : List ℕ) : Type 0 where
  pub utf8 : IsUtf8 bytes
  pub given : (text_of field.kind bytes ≢ []) ⊎ (field.default ≡ None)

-- The value that a field has where its column holds these bytes.
pub data IsFieldValue (enums : List EnumPlan) (field : FieldPlan) (bytes : List ℕ)
    : Value → Type 0 where
  empty : (v : Value)
      → IsUtf8 bytes
      → text_of field.kind bytes ≡ []
      → field.default ≡ Some v
      → IsFieldValue enums field bytes v
  number : (x : ℤ)
      → field.kind ≡ kind.Num
      → IsRead field bytes
      → SaysNumber (without_blanks bytes) x
      → IsFieldValue enums field bytes (value.Num x)
  word : field.kind ≡ kind.Word
      → IsRead field bytes
      → IsFieldValue enums field bytes (value.Word bytes)
  label : (enum l : ℕ)
      → field.kind ≡ kind.Label enum
      → IsRead field bytes
      → SaysLabel (enum_labels enums enum) (without_blanks bytes) l
      → IsFieldValue enums field bytes (value.Label l)

-- What is wrong with the bytes of the field with the number `which`.
pub data IsBadField (enums : List EnumPlan) (which : ℕ) (field : FieldPlan) (bytes : List ℕ)
    : BadCause → Type 0 where
  not_utf8 : ¬ (IsUtf8 bytes) → IsBadField enums which field bytes (cause.Utf8 which)
  no_number : field.kind ≡ kind.Num
      → IsRead field bytes
      → ((x : ℤ) → ¬ (SaysNumber (without_blanks bytes) x))
      → IsBadField enums which field bytes (cause.Number which)
  no_label : (enum : ℕ)
      → field.kind ≡ kind.Label enum
      → IsRead field bytes
      → ((l : ℕ) → ¬ (SaysLabel (enum_labels enums enum) (without_blanks bytes) l))
      → IsBadField enums which field bytes (cause.Label which)

-- The value after `else`, for an empty text.
abbrev pub default_for : Option Value → List ℕ → Option Value
default_for default [] = default
default_for default (b ∷ rest) = None

abbrev pub value_in : List EnumPlan → ℕ → KindPlan → List ℕ → Result Value BadCause
value_in enums which kind.Num text =
    ok_or (option_map value.Num (number_in text)) (cause.Number which)
value_in enums which kind.Word text = Ok (value.Word text)
value_in enums which (kind.Label enum) text =
    ok_or (option_map value.Label (label_in (enum_labels enums enum) text)) (cause.Label which)

abbrev pub unless_given : Option Value → Result Value BadCause → Result Value BadCause
unless_given None found = found
unless_given (Some v) found = Ok v

-- The field's value, or the rule that the bytes break.
abbrev pub read_text : List EnumPlan → ℕ → FieldPlan → List ℕ → Result Value BadCause
read_text enums which field text =
    unless_given (default_for field.default text) (value_in enums which field.kind text)

abbrev pub read_field : List EnumPlan → ℕ → FieldPlan → List ℕ → Result Value BadCause
read_field enums which field bytes =
    if is_utf8 bytes
    then read_text enums which field (text_of field.kind bytes)
    else Err (cause.Utf8 which)

-- The field is one of numbers, and the bytes say this number.
pub record SaysOf (k : KindPlan) (bytes : List ℕ) (x : ℤ) : Type 0 where
  pub is : k ≡ kind.Num
  pub says : number_in (without_blanks bytes) ≡ Some x
